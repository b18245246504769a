use Rattle.law_descriptors.proofs.lemmas.kept_frames.Both.{events_keep_both}
use Rattle.law_descriptors.proofs.kept_frames.laws.events_keep_both.Goals as goal

pub returns : goal.returns
returns g c = events_keep_both g.W.Wire.begins g.W.Wire.transacts
