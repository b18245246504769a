use Rattle.law_reports.proofs.lemmas.pipes.lemmas.below_hubs.BehindMoments.{controller_keeps_behind, driver_keeps_behind}
use Rattle.law_reports.proofs.lemmas.pipes.lemmas.below_hubs.BehindMoments.{command_keeps_behind}
use Rattle.law_reports.proofs.pipes.below_hubs.an_event_keeps_outs_below.Goals as goal

pub returns : goal.returns
returns c = record { controller = controller_keeps_behind; driver = driver_keeps_behind; command = command_keeps_behind }
