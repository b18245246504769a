use Rattle.law_world.proofs.lemmas.memory.Driving.{driver_keeps_mixed}
use Rattle.law_world.proofs.memory.worlds.driver_keeps_mixed.Goals as goal

pub returns : goal.returns
returns c = driver_keeps_mixed
