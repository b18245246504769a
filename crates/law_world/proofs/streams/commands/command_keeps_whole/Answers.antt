use Rattle.law_world.proofs.lemmas.streams.Commanding.{command_keeps_whole}
use Rattle.law_world.proofs.streams.commands.command_keeps_whole.Goals as goal

pub returns : goal.returns
returns c = command_keeps_whole
