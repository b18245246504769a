use Rattle.law_world.proofs.lemmas.memory.LinkLent.{command_leaves_aside}
use Rattle.law_world.proofs.memory.links.command_leaves_aside.Goals as goal

pub returns : goal.returns
returns c = command_leaves_aside
