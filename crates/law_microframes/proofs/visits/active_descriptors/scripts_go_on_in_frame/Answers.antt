use Rattle.law_microframes.proofs.lemmas.visits.ActiveFrames.{scripts_go_on_in_frame}
use Rattle.law_microframes.proofs.visits.active_descriptors.scripts_go_on_in_frame.Goals as goal

pub returns : goal.returns
returns c = scripts_go_on_in_frame
