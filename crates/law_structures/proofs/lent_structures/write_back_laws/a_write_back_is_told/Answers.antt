use Rattle.law_structures.proofs.lemmas.lent_structures.WrittenBack.{all_is_written, write_back_is_told}
use Rattle.law_structures.proofs.lent_structures.write_back_laws.a_write_back_is_told.Goals as goal

pub returns : goal.returns
returns c = record { whole = all_is_written; left = write_back_is_told }
