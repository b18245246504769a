use Rattle.law_world.proofs.lemmas.memory.lemmas.owned_blocks.Lent.{lent_blocks_are_needed}
use Rattle.law_world.proofs.memory.owned_blocks.laws.lent_blocks_are_needed.Goals as goal

pub returns : goal.returns
returns c = lent_blocks_are_needed
