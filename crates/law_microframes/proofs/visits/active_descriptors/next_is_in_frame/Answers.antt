use Rattle.law_microframes.proofs.lemmas.visits.ActiveFrames.{next_is_in_frame}
use Rattle.law_microframes.proofs.visits.active_descriptors.next_is_in_frame.Goals as goal

pub returns : goal.returns
returns c = next_is_in_frame
