use Rattle.law_world.proofs.lemmas.streams.lemmas.left_puts.Leaving.{leave_sends}
use Rattle.law_world.proofs.streams.left_puts.laws.leave_sends.Goals as goal

pub returns : goal.returns
returns g = leave_sends
