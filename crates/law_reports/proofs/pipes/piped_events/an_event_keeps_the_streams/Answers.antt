use Rattle.law_reports.proofs.lemmas.pipes.Moments.{controller_keeps_piped, driver_keeps_piped, command_keeps_piped}
use Rattle.law_reports.proofs.pipes.piped_events.an_event_keeps_the_streams.Goals as goal

pub returns-clause-controller : goal.returns-clause-controller
returns-clause-controller c = controller_keeps_piped

pub returns-clause-driver : goal.returns-clause-driver
returns-clause-driver c = driver_keeps_piped

pub returns-clause-command : goal.returns-clause-command
returns-clause-command c = command_keeps_piped
