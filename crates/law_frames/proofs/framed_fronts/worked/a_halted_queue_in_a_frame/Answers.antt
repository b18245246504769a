use Rattle.law_frames.proofs.lemmas.framed_fronts.SampledHalts.{halted_met, halted_in_hand, halted_front, halt_stops, passed_by}
use Rattle.law_frames.proofs.framed_fronts.worked.a_halted_queue_in_a_frame.Goals as goal

pub returns : goal.returns
returns c = record { met = halted_met; in_hand = halted_in_hand; front = halted_front; stops = halt_stops; effect = passed_by }
