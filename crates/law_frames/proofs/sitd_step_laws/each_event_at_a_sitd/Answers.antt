use Rattle.law_frames.proofs.Steps.{sitd_happens}
use Rattle.law_frames.proofs.sitd_step_laws.each_event_at_a_sitd.Goals as goal

pub returns : goal.returns
returns g c = sitd_happens g.W.Wire.transacts
