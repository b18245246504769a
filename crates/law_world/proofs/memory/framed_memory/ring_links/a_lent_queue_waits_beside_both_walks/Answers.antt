use Rattle.law_world.proofs.lemmas.memory.lemmas.framed_memory.RingLinksWaiting.{open_lend_now, open_lend_meets, open_lent_stays_now}
use Rattle.law_world.proofs.memory.framed_memory.ring_links.a_lent_queue_waits_beside_both_walks.Goals as goal

pub returns : goal.returns
returns g c = record { lend = open_lend_now; meets = open_lend_meets; stays = open_lent_stays_now g.W.Wire.begins g.W.Wire.transacts }
