use Rattle.law_reports.proofs.lemmas.lines.Commanding.{command_keeps_telling}
use Rattle.law_reports.proofs.lemmas.lines.Driven.{driver_keeps_telling, rows_keep_iso_going}
use Rattle.law_reports.proofs.lemmas.lines.ToldEvents.{controller_keeps_telling}
use Rattle.law_reports.proofs.lines.telling_events.an_event_adds_what_it_moved.Goals as goal

pub returns-clause-controller : goal.returns-clause-controller
returns-clause-controller c = controller_keeps_telling

pub returns-clause-driver : goal.returns-clause-driver
returns-clause-driver c = driver_keeps_telling

pub returns-clause-going : goal.returns-clause-going
returns-clause-going c = rows_keep_iso_going

pub returns-clause-command : goal.returns-clause-command
returns-clause-command c = command_keeps_telling
