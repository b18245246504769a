use Rattle.law_frames.proofs.lemmas.framed_fronts.SampledHalts.{works_met, works_in_hand}
use Rattle.law_frames.proofs.framed_fronts.worked.the_walk_meets_a_queue.Goals as goal

pub returns : goal.returns
returns c = record { met = works_met; in_hand = works_in_hand }
