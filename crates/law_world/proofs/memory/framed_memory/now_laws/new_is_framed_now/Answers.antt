use Rattle.law_world.proofs.lemmas.memory.lemmas.framed_memory.Now.{new_is_framed_now}
use Rattle.law_world.proofs.memory.framed_memory.now_laws.new_is_framed_now.Goals as goal

pub returns : goal.returns
returns c = new_is_framed_now
