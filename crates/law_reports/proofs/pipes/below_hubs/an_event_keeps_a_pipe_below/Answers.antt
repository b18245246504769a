use Rattle.law_reports.proofs.lemmas.pipes.lemmas.below_hubs.Controlled.{controller_keeps_ways, controller_keeps_out_below}
use Rattle.law_reports.proofs.lemmas.pipes.lemmas.below_hubs.Controlled.{controller_keeps_in_below}
use Rattle.law_reports.proofs.pipes.below_hubs.an_event_keeps_a_pipe_below.Goals as goal

pub returns : goal.returns
returns c = record { ways = controller_keeps_ways; outward = controller_keeps_out_below; inward = controller_keeps_in_below }
