use Rattle.law_microframes.proofs.lemmas.visits.ActiveFrames.{alone_is_in_frame}
use Rattle.law_microframes.proofs.visits.active_descriptors.alone_is_in_frame.Goals as goal

pub returns : goal.returns
returns c = alone_is_in_frame
