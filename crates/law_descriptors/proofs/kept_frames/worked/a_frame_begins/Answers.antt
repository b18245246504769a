use Rattle.law_controller.proofs.lemmas.frame_control.Sampled.{both_run}
use Rattle.law_descriptors.proofs.lemmas.kept_frames.Sampled.{opening_aligned}
use Rattle.law_descriptors.proofs.kept_frames.worked.a_frame_begins.Goals as goal

pub returns : goal.returns
returns c = record { runs = both_run; aligned = opening_aligned }
