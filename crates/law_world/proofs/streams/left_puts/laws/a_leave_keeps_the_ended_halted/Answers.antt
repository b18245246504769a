use Rattle.law_world.proofs.lemmas.streams.lemmas.left_puts.Leaving.{leave_stops, kept_stay_stopped}
use Rattle.law_world.proofs.streams.left_puts.laws.a_leave_keeps_the_ended_halted.Goals as goal

pub returns : goal.returns
returns g = record { leave = leave_stops; spared = kept_stay_stopped }
