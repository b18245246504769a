use Rattle.law_world.proofs.lemmas.memory.lemmas.framed_memory.NowControlled.{controller_keeps_now}
use Rattle.law_world.proofs.memory.framed_memory.now_laws.controller_keeps_now.Goals as goal

pub returns : goal.returns
returns g c = controller_keeps_now g.W.Wire.begins g.W.Wire.transacts
