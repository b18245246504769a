use Rattle.law_ring.proofs.ReleaseGoing.{part_may_lose}
use Rattle.law_ring.proofs.Returning.{returns_leave_ring}
use Rattle.law_ring.proofs.release_laws.structures_are_given_back_together.Goals as goal

pub returns : goal.returns
returns c = record { part = part_may_lose; ring = returns_leave_ring }
