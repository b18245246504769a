use Rattle.law_world.proofs.lemmas.memory.Opening.{new_world_is_mixed}
use Rattle.law_world.proofs.memory.worlds.new_world_is_mixed.Goals as goal

pub returns : goal.returns
returns c = new_world_is_mixed
