use Rattle.law_world.proofs.lemmas.streams.lemmas.taken_reports.Seating.{moment_is_seated}
use Rattle.law_world.proofs.lemmas.streams.lemmas.taken_reports.Turning.{event_keeps_seats, command_keeps_seats, run_keeps_seats}
use Rattle.law_world.proofs.streams.taken_reports.laws.each_moment_is_seated.Goals as goal

pub returns-clause-event : goal.returns-clause-event
returns-clause-event c = event_keeps_seats

pub returns-clause-command : goal.returns-clause-command
returns-clause-command c = command_keeps_seats

pub returns-clause-run : goal.returns-clause-run
returns-clause-run c = run_keeps_seats

pub returns-clause-moment : goal.returns-clause-moment
returns-clause-moment c = moment_is_seated
