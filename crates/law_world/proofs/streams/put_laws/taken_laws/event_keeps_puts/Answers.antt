use Rattle.law_world.proofs.lemmas.streams.lemmas.put_laws.Steps.{event_keeps_puts}
use Rattle.law_world.proofs.streams.put_laws.taken_laws.event_keeps_puts.Goals as goal

pub returns : goal.returns
returns c = event_keeps_puts
