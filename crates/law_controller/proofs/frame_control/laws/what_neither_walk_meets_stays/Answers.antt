use Rattle.law_controller.proofs.lemmas.frame_control.Running.{what_neither_walk_meets_stays}
use Rattle.law_controller.proofs.frame_control.laws.what_neither_walk_meets_stays.Goals as goal

pub returns : goal.returns
returns g c = what_neither_walk_meets_stays g.W.Wire.begins g.W.Wire.transacts
