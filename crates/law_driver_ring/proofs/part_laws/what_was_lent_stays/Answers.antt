use Rattle.law_driver_ring.proofs.Lent.{lend_taken_leaves}
use Rattle.law_driver_ring.proofs.Offered.{opens_leave, receiving_leaves}
use Rattle.law_driver_ring.proofs.part_laws.what_was_lent_stays.Goals as goal

pub returns : goal.returns
returns c = record { lend = lend_taken_leaves; opening = opens_leave; receiving = receiving_leaves }
