use Rattle.law_structures.proofs.lemmas.lent_structures.Lending.{lent_is_told, got_back_is_told, released_is_told}
use Rattle.law_structures.proofs.lent_structures.structure_laws.runs_are_told.Goals as goal

pub returns : goal.returns
returns c = record { lent = lent_is_told; back = got_back_is_told; released = released_is_told }
