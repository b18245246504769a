use Rattle.law_world.proofs.lemmas.streams.lemmas.put_laws.Rows.{driver_holds_puts}
use Rattle.law_world.proofs.streams.put_laws.held_laws.driver_holds_puts.Goals as goal

pub returns : goal.returns
returns c = driver_holds_puts
