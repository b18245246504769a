use Rattle.law_world.proofs.lemmas.memory.lemmas.owned_blocks.Lent.{new_driver_owns_all}
use Rattle.law_world.proofs.memory.owned_blocks.laws.new_driver_owns_all.Goals as goal

pub returns : goal.returns
returns c = new_driver_owns_all
