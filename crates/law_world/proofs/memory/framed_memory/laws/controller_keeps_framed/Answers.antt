use Rattle.law_world.proofs.lemmas.memory.lemmas.framed_memory.Framing.{controller_keeps_framed}
use Rattle.law_world.proofs.memory.framed_memory.laws.controller_keeps_framed.Goals as goal

pub returns : goal.returns
returns g c = controller_keeps_framed g.W.Wire.begins g.W.Wire.transacts
