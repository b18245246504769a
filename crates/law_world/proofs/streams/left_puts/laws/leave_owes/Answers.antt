use Rattle.law_world.proofs.lemmas.streams.lemmas.left_puts.Leaving.{leave_owes}
use Rattle.law_world.proofs.streams.left_puts.laws.leave_owes.Goals as goal

pub returns : goal.returns
returns g = leave_owes
