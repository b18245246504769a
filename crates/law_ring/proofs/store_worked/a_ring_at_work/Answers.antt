use Rattle.law_ring.proofs.StoreSampled.{ring_at_work}
use Rattle.law_ring.proofs.store_worked.a_ring_at_work.Goals as goal

pub returns : goal.returns
returns c = ring_at_work
