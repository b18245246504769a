use Rattle.law_controller.proofs.lemmas.frame_stores.Framing.{more_are_met}
use Rattle.law_controller.proofs.frame_stores.laws.more_are_met.Goals as goal

pub returns : goal.returns
returns c = more_are_met
