use Rattle.law_world.proofs.lemmas.memory.Controller.{controller_keeps_mixed}
use Rattle.law_world.proofs.memory.worlds.controller_keeps_mixed.Goals as goal

pub returns : goal.returns
returns c = controller_keeps_mixed
