use Rattle.law_world.proofs.lemmas.memory.lemmas.owned_blocks.Lent.{command_owns_all}
use Rattle.law_world.proofs.memory.owned_blocks.laws.command_owns_all.Goals as goal

pub returns : goal.returns
returns c = command_owns_all
