use Rattle.example_frames.proofs.Going.{both_told}
use Rattle.example_frames.proofs.laws.each_event_leaves_both.Goals as goal

pub returns : goal.returns
returns g c = both_told g.W.Wire.begins g.W.Wire.transacts
