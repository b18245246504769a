use Rattle.law_reports.proofs.lemmas.quiet.Worlds.{controller_misses_none, driver_misses_none, command_misses_none}
use Rattle.law_reports.proofs.quiet.an_event_misses_none.Goals as goal

pub returns-clause-controller : goal.returns-clause-controller
returns-clause-controller c = controller_misses_none

pub returns-clause-driver : goal.returns-clause-driver
returns-clause-driver c = driver_misses_none

pub returns-clause-command : goal.returns-clause-command
returns-clause-command c = command_misses_none
