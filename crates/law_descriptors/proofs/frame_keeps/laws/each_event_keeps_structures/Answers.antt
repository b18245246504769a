use Rattle.law_descriptors.proofs.lemmas.frame_keeps.Keeping.{parts_both}
use Rattle.law_descriptors.proofs.lemmas.frame_keeps.Framing.{frame_keeps, walk_keeps}
use Rattle.law_descriptors.proofs.lemmas.frame_keeps.Ringing.{ring_keeps, control_keeps}
use Rattle.law_descriptors.proofs.frame_keeps.laws.each_event_keeps_structures.Goals as goal

pub returns : goal.returns
returns g c = record { frames = frame_keeps g.W.Wire.transacts; walk = walk_keeps g.W.Wire.transacts; ring = ring_keeps g.W.Wire.transacts; controller = control_keeps g.W.Wire.begins g.W.Wire.transacts; both = parts_both }
