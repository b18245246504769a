use Rattle.law_world.proofs.lemmas.streams.lemmas.left_puts.Released.{endpoint_release_owes}
use Rattle.law_world.proofs.streams.left_puts.laws.endpoint_release_owes.Goals as goal

pub returns : goal.returns
returns g = endpoint_release_owes
