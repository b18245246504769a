use Rattle.law_microframes.proofs.lemmas.due.Sampled.{keyboard_is_due, keyboard_is_found}
use Rattle.law_microframes.proofs.due.worked.a_keyboard_is_due.Goals as goal

pub returns-clause-due : goal.returns-clause-due
returns-clause-due c = keyboard_is_due

pub returns-clause-found : goal.returns-clause-found
returns-clause-found c = keyboard_is_found
