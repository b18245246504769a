use Rattle.law_reports.proofs.lemmas.pipes.FollowedMoments.{controller_keeps_followed, command_keeps_followed}
use Rattle.law_reports.proofs.lemmas.pipes.FollowedSteps.{driver_keeps_followed}
use Rattle.law_reports.proofs.pipes.piped_events.an_event_keeps_those_that_left.Goals as goal

pub returns-clause-controller : goal.returns-clause-controller
returns-clause-controller c = controller_keeps_followed

pub returns-clause-driver : goal.returns-clause-driver
returns-clause-driver c = driver_keeps_followed

pub returns-clause-command : goal.returns-clause-command
returns-clause-command c = command_keeps_followed
