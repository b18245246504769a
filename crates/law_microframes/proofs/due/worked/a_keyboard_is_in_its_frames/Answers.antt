use Rattle.law_microframes.proofs.lemmas.due.Sampled.{keyboard_is_there, keyboard_was_visited, keyboard_is_linked}
use Rattle.law_microframes.proofs.due.worked.a_keyboard_is_in_its_frames.Goals as goal

pub returns-clause-there : goal.returns-clause-there
returns-clause-there c = keyboard_is_there

pub returns-clause-visited : goal.returns-clause-visited
returns-clause-visited c = keyboard_was_visited

pub returns-clause-not_yet : goal.returns-clause-not_yet
returns-clause-not_yet c = keyboard_is_linked
