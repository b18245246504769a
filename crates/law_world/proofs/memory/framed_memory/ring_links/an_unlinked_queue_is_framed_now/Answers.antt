use Rattle.law_world.proofs.lemmas.memory.lemmas.framed_memory.RingLinksLeave.{unlink_is_due, unlink_now}
use Rattle.law_world.proofs.lemmas.memory.lemmas.framed_memory.RingLinksMet.{unlink_meets}
use Rattle.law_world.proofs.memory.framed_memory.ring_links.an_unlinked_queue_is_framed_now.Goals as goal

pub returns : goal.returns
returns c = record { due = unlink_is_due; framed = unlink_now; meets = unlink_meets }
