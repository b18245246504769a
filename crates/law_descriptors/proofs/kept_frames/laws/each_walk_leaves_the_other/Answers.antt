use Rattle.law_descriptors.proofs.lemmas.kept_frames.Both.{ring_leaves_frames, frames_leave_ring}
use Rattle.law_descriptors.proofs.kept_frames.laws.each_walk_leaves_the_other.Goals as goal

pub returns : goal.returns
returns g c = record { ring = ring_leaves_frames g.W.Wire.begins g.W.Wire.transacts; frames = frames_leave_ring g.W.Wire.transacts }
