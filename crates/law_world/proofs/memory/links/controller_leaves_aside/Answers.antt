use Rattle.law_world.proofs.lemmas.memory.LinkLent.{controller_leaves_aside}
use Rattle.law_world.proofs.memory.links.controller_leaves_aside.Goals as goal

pub returns : goal.returns
returns c = controller_leaves_aside
