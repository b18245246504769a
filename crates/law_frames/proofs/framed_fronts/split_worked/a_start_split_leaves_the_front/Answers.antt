use Rattle.law_frames.proofs.lemmas.framed_fronts.SampledSplits.{starts_so, front_stays}
use Rattle.law_frames.proofs.framed_fronts.split_worked.a_start_split_leaves_the_front.Goals as goal

pub returns : goal.returns
returns c = record { effect = starts_so; front = front_stays }
