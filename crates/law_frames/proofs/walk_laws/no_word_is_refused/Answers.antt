use Rattle.law_frames.proofs.Walking.{foreign_stays}
use Rattle.law_frames.proofs.walk_laws.no_word_is_refused.Goals as goal

pub returns : goal.returns
returns g c = foreign_stays g.W.Wire.transacts
