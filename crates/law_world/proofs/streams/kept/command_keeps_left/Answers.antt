use Rattle.law_world.proofs.lemmas.streams.FedCommands.{command_keeps_left}
use Rattle.law_world.proofs.streams.kept.command_keeps_left.Goals as goal

pub returns : goal.returns
returns c = command_keeps_left
