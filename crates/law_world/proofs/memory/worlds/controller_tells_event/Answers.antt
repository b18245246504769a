use Rattle.law_world.proofs.lemmas.memory.Controller.{controller_tells_event}
use Rattle.law_world.proofs.memory.worlds.controller_tells_event.Goals as goal

pub returns : goal.returns
returns c = controller_tells_event
