use Rattle.law_controller.proofs.lemmas.frame_stores.Sampled.{both_stored, both_begun}
use Rattle.law_controller.proofs.frame_stores.worked.a_frame_is_emptied.Goals as goal

pub returns : goal.returns
returns c = record { stored = both_stored; begun = both_begun }
