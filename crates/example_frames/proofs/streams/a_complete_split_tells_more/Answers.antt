use Rattle.example_frames.proofs.StreamSampled.{tells_more, let_go}
use Rattle.example_frames.proofs.streams.a_complete_split_tells_more.Goals as goal

pub returns : goal.returns
returns c = record { made = tells_more; let_go = let_go }
