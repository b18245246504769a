use Rattle.law_structures.proofs.lemmas.lent_structures.StructureSampled.{sample_told}
use Rattle.law_structures.proofs.lent_structures.structure_worked.a_small_memory.Goals as goal

pub returns : goal.returns
returns c = sample_told
