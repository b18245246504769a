use Rattle.law_below_hubs.proofs.HostBegins.{out_is_taken, in_begins}
use Rattle.law_below_hubs.proofs.hosts.what_moves_below_begins_the_stream.Goals as goal

pub returns : goal.returns
returns c = record { outward = out_is_taken; inward = in_begins }
