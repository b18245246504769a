use Rattle.worked_claims.proofs.LeftFrames.{live_leads, end_leads, later_leads, earlier_breaks}
use Rattle.worked_claims.proofs.left_frames.one_leads_on.Goals as goal

pub returns : goal.returns
returns c = record { live = live_leads; end = end_leads; later = later_leads; earlier = earlier_breaks }
