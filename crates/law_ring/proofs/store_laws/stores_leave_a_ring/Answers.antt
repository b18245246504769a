use Rattle.law_ring.proofs.Driving.{element_store_leaves_ring, link_store_leaves_ring, mending_leaves_ring}
use Rattle.law_ring.proofs.store_laws.stores_leave_a_ring.Goals as goal

pub returns : goal.returns
returns c = record { element = element_store_leaves_ring; link = link_store_leaves_ring; mending = mending_leaves_ring }
