use Rattle.law_reports.proofs.lemmas.pipes.DeclaredOpens.{texts_declare}
use Rattle.law_reports.proofs.lemmas.pipes.Moments.{scripts_are_piped, texts_are_piped}
use Rattle.law_reports.proofs.lemmas.pipes.Opening.{new_world_is_piped}
use Rattle.law_reports.proofs.pipes.piped_events.each_moment_is_piped.Goals as goal

pub returns-clause-opening : goal.returns-clause-opening
returns-clause-opening c = new_world_is_piped

pub returns-clause-declared : goal.returns-clause-declared
returns-clause-declared c = texts_declare

pub returns-clause-scripts : goal.returns-clause-scripts
returns-clause-scripts c = scripts_are_piped

pub returns-clause-texts : goal.returns-clause-texts
returns-clause-texts c = texts_are_piped
