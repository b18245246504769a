use Rattle.law_frames.proofs.lemmas.framed_fronts.SampledSplits.{misses_so, halts_so}
use Rattle.law_frames.proofs.framed_fronts.split_worked.a_missed_split_halts_the_queue.Goals as goal

pub returns : goal.returns
returns c = record { effect = misses_so; halts = halts_so }
