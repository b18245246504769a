use Rattle.law_world.proofs.lemmas.steps.lemmas.control_queues.Beside.{controller_keeps_controls}
use Rattle.law_world.proofs.steps.control_queues.laws.controller_keeps_controls.Goals as goal

pub returns : goal.returns
returns g c = controller_keeps_controls g.W.Wire.begins g.W.Wire.transacts
