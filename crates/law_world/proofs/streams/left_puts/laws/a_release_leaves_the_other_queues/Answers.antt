use Rattle.law_world.proofs.lemmas.streams.lemmas.left_puts.Released.{endpoint_release_sends, endpoint_release_stops}
use Rattle.law_world.proofs.streams.left_puts.laws.a_release_leaves_the_other_queues.Goals as goal

pub returns : goal.returns
returns g = record { sent = endpoint_release_sends; ended = endpoint_release_stops }
