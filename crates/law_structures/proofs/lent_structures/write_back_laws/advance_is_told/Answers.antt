use Rattle.law_structures.proofs.lemmas.lent_structures.WrittenBack.{advance_is_told}
use Rattle.law_structures.proofs.lent_structures.write_back_laws.advance_is_told.Goals as goal

pub returns : goal.returns
returns c = advance_is_told
