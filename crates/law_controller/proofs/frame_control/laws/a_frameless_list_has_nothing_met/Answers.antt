use Rattle.law_controller.proofs.lemmas.frame_control.Frameless.{a_frameless_list_has_nothing_met}
use Rattle.law_controller.proofs.frame_control.laws.a_frameless_list_has_nothing_met.Goals as goal

pub returns : goal.returns
returns c = a_frameless_list_has_nothing_met
