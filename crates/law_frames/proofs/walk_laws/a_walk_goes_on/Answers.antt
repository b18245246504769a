use Rattle.law_frames.proofs.Going.{walked}
use Rattle.law_frames.proofs.walk_laws.a_walk_goes_on.Goals as goal

pub returns : goal.returns
returns g c met parts hand kinds p wire new after heard = walked g.W.Wire.transacts met heard new after parts hand kinds p wire
