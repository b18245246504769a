use Rattle.law_controller.proofs.lemmas.frame_control.Sampled.{both_run}
use Rattle.law_controller.proofs.frame_control.worked.both_are_run.Goals as goal

pub returns : goal.returns
returns c = both_run
