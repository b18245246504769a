use Rattle.law_world.proofs.lemmas.streams.lemmas.left_puts.Leaving.{leave_holds_puts}
use Rattle.law_world.proofs.streams.left_puts.laws.leave_holds_puts.Goals as goal

pub returns : goal.returns
returns g = leave_holds_puts
