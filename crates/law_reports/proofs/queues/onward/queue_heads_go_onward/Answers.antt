use Rattle.law_reports.proofs.lemmas.queues.Controlled.{controller_keeps_onward}
use Rattle.law_reports.proofs.lemmas.queues.Quiet.{command_keeps_onward}
use Rattle.law_reports.proofs.lemmas.queues.Steps.{driver_keeps_onward}
use Rattle.law_reports.proofs.queues.onward.queue_heads_go_onward.Goals as goal

pub returns-clause-controller : goal.returns-clause-controller
returns-clause-controller c = controller_keeps_onward

pub returns-clause-driver : goal.returns-clause-driver
returns-clause-driver c = driver_keeps_onward

pub returns-clause-command : goal.returns-clause-command
returns-clause-command c = command_keeps_onward
