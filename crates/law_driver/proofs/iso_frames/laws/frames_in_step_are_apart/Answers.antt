use Rattle.law_driver.proofs.lemmas.iso_frames.Steps.{frames_in_step_are_apart}
use Rattle.law_driver.proofs.iso_frames.laws.frames_in_step_are_apart.Goals as goal

pub returns : goal.returns
returns c = frames_in_step_are_apart
