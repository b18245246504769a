use Rattle.law_world.proofs.lemmas.memory.lemmas.framed_memory.Now.{registers_keep_now}
use Rattle.law_world.proofs.memory.framed_memory.now_laws.registers_keep_now.Goals as goal

pub returns : goal.returns
returns c = registers_keep_now
