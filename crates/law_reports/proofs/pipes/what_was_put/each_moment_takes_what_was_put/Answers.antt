use Rattle.law_reports.proofs.lemmas.pipes.lemmas.puts.PaidMoments.{new_world_is_paid, scripts_are_paid}
use Rattle.law_reports.proofs.lemmas.pipes.lemmas.puts.PaidMoments.{texts_are_paid, texts_take_what_was_put}
use Rattle.law_reports.proofs.pipes.what_was_put.each_moment_takes_what_was_put.Goals as goal

pub returns-clause-opening : goal.returns-clause-opening
returns-clause-opening c = new_world_is_paid

pub returns-clause-scripts : goal.returns-clause-scripts
returns-clause-scripts c = scripts_are_paid

pub returns-clause-texts : goal.returns-clause-texts
returns-clause-texts c = texts_are_paid

pub returns-clause-puts : goal.returns-clause-puts
returns-clause-puts c = texts_take_what_was_put
