use Rattle.law_controller.proofs.lemmas.frame_stores.Framing.{fewer_are_met}
use Rattle.law_controller.proofs.frame_stores.laws.fewer_are_met.Goals as goal

pub returns : goal.returns
returns c = fewer_are_met
