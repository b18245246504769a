use Rattle.law_reports.proofs.lemmas.pipes.lemmas.below_hubs.Controlled.{controller_leaves_out, controller_leaves_in}
use Rattle.law_reports.proofs.pipes.below_hubs.an_event_leaves_an_unmet_pipe_below.Goals as goal

pub returns : goal.returns
returns c = record { outward = controller_leaves_out; inward = controller_leaves_in }
