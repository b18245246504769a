use Rattle.law_reports.proofs.lemmas.queues.Moments.{new_world_goes_onward, scripts_go_onward}
use Rattle.law_reports.proofs.queues.onward.each_moment_goes_onward.Goals as goal

pub returns-clause-opening : goal.returns-clause-opening
returns-clause-opening c = new_world_goes_onward

pub returns-clause-scripts : goal.returns-clause-scripts
returns-clause-scripts c = scripts_go_onward
