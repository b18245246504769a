use Rattle.law_world.proofs.lemmas.streams.lemmas.put_laws.Steps.{command_takes_puts}
use Rattle.law_world.proofs.streams.put_laws.taken_laws.command_takes_puts.Goals as goal

pub returns : goal.returns
returns c = command_takes_puts
