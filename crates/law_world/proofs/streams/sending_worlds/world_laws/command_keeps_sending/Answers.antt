use Rattle.law_world.proofs.lemmas.streams.lemmas.sending_worlds.Commanding.{command_keeps_sending}
use Rattle.law_world.proofs.streams.sending_worlds.world_laws.command_keeps_sending.Goals as goal

pub returns : goal.returns
returns c = command_keeps_sending
