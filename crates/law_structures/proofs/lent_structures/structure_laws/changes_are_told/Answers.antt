use Rattle.law_structures.proofs.lemmas.lent_structures.Telling.{rest_is_told, change_is_told, new_is_told, another_is_told, fewer_are_told}
use Rattle.law_structures.proofs.lent_structures.structure_laws.changes_are_told.Goals as goal

pub returns : goal.returns
returns c = record { rest = rest_is_told; change = change_is_told; new = new_is_told; another = another_is_told; fewer = fewer_are_told }
