use Rattle.law_controller.proofs.lemmas.frame_control.Running.{each_event_of_the_controller_over_both}
use Rattle.law_controller.proofs.frame_control.laws.each_event_of_the_controller_over_both.Goals as goal

pub returns : goal.returns
returns g c = each_event_of_the_controller_over_both g.W.Wire.begins g.W.Wire.transacts
