use Rattle.law_frames.proofs.Leaving.{unmet_stays}
use Rattle.law_frames.proofs.walk_laws.unmet_stays.Goals as goal

pub returns : goal.returns
returns g c = unmet_stays g.W.Wire.transacts
