use Rattle.law_controller.proofs.lemmas.frame_control.Joining.{joined_is_asked}
use Rattle.law_controller.proofs.frame_control.laws.joined_is_asked.Goals as goal

pub returns : goal.returns
returns c = joined_is_asked
