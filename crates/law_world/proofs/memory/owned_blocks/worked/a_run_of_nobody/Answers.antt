use Rattle.law_world.proofs.lemmas.memory.lemmas.owned_blocks.Busy.{nobody}
use Rattle.law_world.proofs.memory.owned_blocks.worked.a_run_of_nobody.Goals as goal

pub returns : goal.returns
returns c = nobody
