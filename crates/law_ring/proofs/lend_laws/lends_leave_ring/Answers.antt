use Rattle.law_ring.proofs.Joining.{lends_leave_ring}
use Rattle.law_ring.proofs.lend_laws.lends_leave_ring.Goals as goal

pub returns : goal.returns
returns c = lends_leave_ring
