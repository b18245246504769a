use Rattle.law_frames.proofs.lemmas.framed_fronts.Sampled.{links_rise, has_front, halt_stops, back_happens, front_goes_on}
use Rattle.law_frames.proofs.framed_fronts.worked.a_queue_in_a_frame.Goals as goal

pub returns : goal.returns
returns c = record { rise = links_rise; front = has_front; halts = halt_stops; effect = back_happens; goes_on = front_goes_on }
