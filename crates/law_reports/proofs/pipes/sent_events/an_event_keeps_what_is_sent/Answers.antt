use Rattle.law_reports.proofs.lemmas.pipes.lemmas.puts.Moments.{controller_keeps_sent, driver_keeps_sent, command_keeps_sent}
use Rattle.law_reports.proofs.pipes.sent_events.an_event_keeps_what_is_sent.Goals as goal

pub returns-clause-controller : goal.returns-clause-controller
returns-clause-controller c = controller_keeps_sent

pub returns-clause-driver : goal.returns-clause-driver
returns-clause-driver c = driver_keeps_sent

pub returns-clause-command : goal.returns-clause-command
returns-clause-command c = command_keeps_sent
