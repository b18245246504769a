use Rattle.law_descriptors.proofs.Events.{ring_keeps}
use Rattle.law_descriptors.proofs.Frames.{frames_keep}
use Rattle.law_descriptors.proofs.part_laws.each_event_keeps_descriptors.Goals as goal

pub returns : goal.returns
returns g c = record { frames = frames_keep g.W.Wire.transacts; ring = ring_keeps g.W.Wire.transacts }
