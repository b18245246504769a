use Rattle.law_world.proofs.lemmas.memory.LinkLent.{driver_leaves_lent}
use Rattle.law_world.proofs.lemmas.memory.LinkWords.{driver_leaves_aside}
use Rattle.law_world.proofs.memory.links.driver_leaves_aside.Goals as goal

pub returns : goal.returns
returns c = record { link = driver_leaves_aside; lent = driver_leaves_lent }
