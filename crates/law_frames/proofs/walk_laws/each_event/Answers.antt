use Rattle.law_frames.proofs.Walking.{event_happens}
use Rattle.law_frames.proofs.walk_laws.each_event.Goals as goal

pub returns : goal.returns
returns g c = event_happens g.W.Wire.transacts
