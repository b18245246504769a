use Rattle.law_world.proofs.lemmas.streams.lemmas.left_puts.Leaving.{a_leave_keeps_what_was_taken}
use Rattle.law_world.proofs.streams.left_puts.laws.a_leave_keeps_what_was_taken.Goals as goal

pub returns : goal.returns
returns g c = a_leave_keeps_what_was_taken
