use Rattle.law_world.proofs.lemmas.memory.CommandKeeping.{command_tells_step}
use Rattle.law_world.proofs.memory.worlds.command_tells_step.Goals as goal

pub returns : goal.returns
returns c = command_tells_step
