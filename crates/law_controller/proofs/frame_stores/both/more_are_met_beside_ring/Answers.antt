use Rattle.law_controller.proofs.lemmas.frame_stores.Beside.{more_are_met_beside_ring}
use Rattle.law_controller.proofs.frame_stores.both.more_are_met_beside_ring.Goals as goal

pub returns : goal.returns
returns c = more_are_met_beside_ring
