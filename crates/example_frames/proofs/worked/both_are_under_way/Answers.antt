use Rattle.example_frames.proofs.Sampled.{under_way}
use Rattle.example_frames.proofs.worked.both_are_under_way.Goals as goal

pub returns : goal.returns
returns c = under_way
