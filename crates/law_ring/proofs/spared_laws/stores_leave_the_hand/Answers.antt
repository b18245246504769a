use Rattle.law_ring.proofs.SparedSparing.{linked_hand_is_same, stale_hand_is_same}
use Rattle.law_ring.proofs.spared_laws.stores_leave_the_hand.Goals as goal

pub returns-clause-linked : goal.returns-clause-linked
returns-clause-linked c = linked_hand_is_same

pub returns-clause-stale : goal.returns-clause-stale
returns-clause-stale c = stale_hand_is_same
