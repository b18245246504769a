use Rattle.law_controller.proofs.lemmas.frame_control.Joining.{walks_move_streams}
use Rattle.law_controller.proofs.frame_control.laws.walks_move_streams.Goals as goal

pub returns : goal.returns
returns g c = walks_move_streams g.W.Wire.begins g.W.Wire.transacts
