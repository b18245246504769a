use Rattle.law_world.proofs.lemmas.memory.lemmas.owned_blocks.Worlds.{each_moment_owns_its_blocks}
use Rattle.law_world.proofs.memory.owned_blocks.laws.each_moment_owns_its_blocks.Goals as goal

pub returns : goal.returns
returns c = each_moment_owns_its_blocks
