use Rattle.law_reports.proofs.lemmas.pipes.lemmas.hub_setups.Moments.{controller_keeps_heeding, driver_keeps_heeding}
use Rattle.law_reports.proofs.lemmas.pipes.lemmas.hub_setups.Moments.{command_keeps_heeding}
use Rattle.law_reports.proofs.pipes.hub_setups.an_event_sets_up_what_was_asked.Goals as goal

pub returns : goal.returns
returns c = record { controller = controller_keeps_heeding; driver = driver_keeps_heeding; command = command_keeps_heeding }
