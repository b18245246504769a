use Rattle.law_world.proofs.lemmas.memory.lemmas.framed_memory.RingLinksOpen.{open_link_now}
use Rattle.law_world.proofs.lemmas.memory.lemmas.framed_memory.RingLinksMet.{head_is_met, open_link_meets}
use Rattle.law_world.proofs.memory.framed_memory.ring_links.a_linked_queue_is_framed_now.Goals as goal

pub returns : goal.returns
returns c = record { head = head_is_met; framed = open_link_now; meets = open_link_meets }
