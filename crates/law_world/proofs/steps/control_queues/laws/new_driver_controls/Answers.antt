use Rattle.law_world.proofs.lemmas.steps.lemmas.control_queues.Beside.{new_driver_controls}
use Rattle.law_world.proofs.steps.control_queues.laws.new_driver_controls.Goals as goal

pub returns : goal.returns
returns c = new_driver_controls
