use Rattle.law_controller.proofs.lemmas.frame_stores.Beside.{fewer_are_met_both, fewer_are_met_outside}
use Rattle.law_controller.proofs.frame_stores.both.fewer_are_met_beside_a_ring.Goals as goal

pub returns : goal.returns
returns c = record { any = fewer_are_met_both; outside = fewer_are_met_outside }
