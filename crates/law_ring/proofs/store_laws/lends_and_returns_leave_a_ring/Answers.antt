use Rattle.law_ring.proofs.Driving.{other_parts_leave_ring, lend_leaves_ring, another_leaves_ring, fewer_leave_ring, strangers_leave_ring}
use Rattle.law_ring.proofs.store_laws.lends_and_returns_leave_a_ring.Goals as goal

pub returns : goal.returns
returns c = record {
  parts = other_parts_leave_ring;
  lend = lend_leaves_ring;
  another = another_leaves_ring;
  fewer =
      fewer_leave_ring;
  strangers = strangers_leave_ring;
}
