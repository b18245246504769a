use Rattle.law_world.proofs.lemmas.streams.lemmas.put_laws.Beside.{event_holds_puts}
use Rattle.law_world.proofs.streams.put_laws.held_laws.event_holds_puts.Goals as goal

pub returns : goal.returns
returns g c = event_holds_puts g.W.Wire.begins g.W.Wire.transacts
