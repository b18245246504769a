use Rattle.example_frames.proofs.StreamSampled.{misses_both, missed_same}
use Rattle.example_frames.proofs.streams.a_missed_split_tells_the_same.Goals as goal

pub returns : goal.returns
returns c = record { effect = misses_both; same = missed_same }
