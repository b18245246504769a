use Rattle.law_controller.proofs.lemmas.frame_stores.Beside.{other_owners_leave_ring}
use Rattle.law_controller.proofs.frame_stores.both.other_owners_leave_ring.Goals as goal

pub returns : goal.returns
returns c = other_owners_leave_ring
