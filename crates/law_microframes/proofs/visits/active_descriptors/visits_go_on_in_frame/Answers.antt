use Rattle.law_microframes.proofs.lemmas.visits.ActiveFrames.{visits_go_on_in_frame}
use Rattle.law_microframes.proofs.visits.active_descriptors.visits_go_on_in_frame.Goals as goal

pub returns : goal.returns
returns c = visits_go_on_in_frame
