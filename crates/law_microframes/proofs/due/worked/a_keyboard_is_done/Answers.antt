use Rattle.law_microframes.proofs.lemmas.due.Sampled.{keyboard_is_done}
use Rattle.law_microframes.proofs.due.worked.a_keyboard_is_done.Goals as goal

pub returns-clause-not_yet : goal.returns-clause-not_yet
returns-clause-not_yet c = keyboard_is_done.0

pub returns-clause-goes_on : goal.returns-clause-goes_on
returns-clause-goes_on c = keyboard_is_done.1

pub returns-clause-over : goal.returns-clause-over
returns-clause-over c = keyboard_is_done.2

pub returns-clause-done : goal.returns-clause-done
returns-clause-done c = keyboard_is_done.3
