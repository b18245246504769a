use Rattle.law_below_hubs.proofs.HostOpens.{unasked_leaves_out, unasked_leaves_in}
use Rattle.law_below_hubs.proofs.events.an_event_leaves_an_unasked_pipe.Goals as goal

pub returns : goal.returns
returns c = record { outward = unasked_leaves_out; inward = unasked_leaves_in }
