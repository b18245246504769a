use Rattle.law_world.proofs.lemmas.streams.lemmas.left_puts.Released.{endpoint_release_holds_puts}
use Rattle.law_world.proofs.streams.left_puts.laws.endpoint_release_holds_puts.Goals as goal

pub returns : goal.returns
returns g = endpoint_release_holds_puts
