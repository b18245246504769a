use Rattle.law_reports.proofs.lemmas.lines.Telling.{new_world_is_told, scripts_are_told, texts_are_told}
use Rattle.law_reports.proofs.lines.telling_events.each_moment_is_told.Goals as goal

pub returns-clause-opening : goal.returns-clause-opening
returns-clause-opening c = new_world_is_told

pub returns-clause-scripts : goal.returns-clause-scripts
returns-clause-scripts c = scripts_are_told

pub returns-clause-texts : goal.returns-clause-texts
returns-clause-texts c = texts_are_told
