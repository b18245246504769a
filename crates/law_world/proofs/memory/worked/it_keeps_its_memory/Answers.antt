use Rattle.law_world.proofs.lemmas.memory.SampledMemory.{two_keep_memory}
use Rattle.law_world.proofs.memory.worked.it_keeps_its_memory.Goals as goal

pub returns : goal.returns
returns c = two_keep_memory
