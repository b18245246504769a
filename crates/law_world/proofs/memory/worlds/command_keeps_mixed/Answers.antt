use Rattle.law_world.proofs.lemmas.memory.CommandKeeping.{command_keeps_mixed}
use Rattle.law_world.proofs.memory.worlds.command_keeps_mixed.Goals as goal

pub returns : goal.returns
returns c = command_keeps_mixed
