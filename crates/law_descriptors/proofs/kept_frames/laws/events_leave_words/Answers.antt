use Rattle.law_descriptors.proofs.lemmas.kept_frames.Both.{events_leave_words}
use Rattle.law_descriptors.proofs.kept_frames.laws.events_leave_words.Goals as goal

pub returns : goal.returns
returns g c = events_leave_words g.W.Wire.begins g.W.Wire.transacts
