use Rattle.law_reports.proofs.lemmas.pipes.lemmas.puts.PaidMoments.{controller_keeps_paid, driver_keeps_paid, command_keeps_paid}
use Rattle.law_reports.proofs.pipes.what_was_put.an_event_keeps_what_was_taken.Goals as goal

pub returns-clause-controller : goal.returns-clause-controller
returns-clause-controller c = controller_keeps_paid

pub returns-clause-driver : goal.returns-clause-driver
returns-clause-driver c = driver_keeps_paid

pub returns-clause-command : goal.returns-clause-command
returns-clause-command c = command_keeps_paid
