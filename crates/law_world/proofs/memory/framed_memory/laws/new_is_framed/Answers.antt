use Rattle.law_world.proofs.lemmas.memory.lemmas.framed_memory.Opening.{new_is_framed}
use Rattle.law_world.proofs.memory.framed_memory.laws.new_is_framed.Goals as goal

pub returns : goal.returns
returns c = new_is_framed
