use Rattle.law_controller.proofs.lemmas.frame_control.Frameless.{frames_without_structures_are_frameless}
use Rattle.law_controller.proofs.frame_control.laws.frames_without_structures_are_frameless.Goals as goal

pub returns : goal.returns
returns c = frames_without_structures_are_frameless
