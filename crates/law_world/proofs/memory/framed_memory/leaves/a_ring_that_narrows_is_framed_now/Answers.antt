use Rattle.law_world.proofs.lemmas.memory.lemmas.framed_memory.LeavingRing.{narrow_keeps_now, clear_narrows_now}
use Rattle.law_world.proofs.memory.framed_memory.leaves.a_ring_that_narrows_is_framed_now.Goals as goal

pub returns : goal.returns
returns c = record { ring = narrow_keeps_now; cleared = clear_narrows_now }
