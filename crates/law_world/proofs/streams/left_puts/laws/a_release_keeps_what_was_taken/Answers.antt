use Rattle.law_world.proofs.lemmas.streams.lemmas.left_puts.Released.{a_release_keeps_what_was_taken}
use Rattle.law_world.proofs.streams.left_puts.laws.a_release_keeps_what_was_taken.Goals as goal

pub returns : goal.returns
returns g c = a_release_keeps_what_was_taken
