use Rattle.law_queues.proofs.lemmas.reached_rings.Narrowing.{narrow_ring, narrow_drives}
use Rattle.law_queues.proofs.reached_rings.laws.a_ring_narrows.Goals as goal

pub returns : goal.returns
returns c = record { ring = narrow_ring; drives = narrow_drives }
