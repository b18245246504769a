use Rattle.law_reports.proofs.lemmas.requests.LeftWorlds.{driver_keeps_cancels, controller_keeps_cancels, command_keeps_cancels, texts_have_cancels}
use Rattle.law_reports.proofs.requests.cancel_line.what_left_is_told.Goals as goal

pub returns-clause-driver : goal.returns-clause-driver
returns-clause-driver c = driver_keeps_cancels

pub returns-clause-controller : goal.returns-clause-controller
returns-clause-controller c = controller_keeps_cancels

pub returns-clause-command : goal.returns-clause-command
returns-clause-command c = command_keeps_cancels

pub returns-clause-texts : goal.returns-clause-texts
returns-clause-texts c = texts_have_cancels
