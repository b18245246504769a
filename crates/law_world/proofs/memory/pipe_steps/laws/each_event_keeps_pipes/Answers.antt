use Rattle.law_world.proofs.lemmas.memory.lemmas.pipe_steps.Events.{each_event_keeps_pipes}
use Rattle.law_world.proofs.memory.pipe_steps.laws.each_event_keeps_pipes.Goals as goal

pub returns : goal.returns
returns g c = each_event_keeps_pipes g.W.Wire.begins g.W.Wire.transacts
