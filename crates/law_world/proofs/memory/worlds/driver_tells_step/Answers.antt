use Rattle.law_world.proofs.lemmas.memory.Driving.{driver_tells_step}
use Rattle.law_world.proofs.memory.worlds.driver_tells_step.Goals as goal

pub returns : goal.returns
returns c = driver_tells_step
