use Rattle.law_queues.proofs.lemmas.mended_heads.Row.{mend_leaves_ring, last_mend_ends}
use Rattle.law_queues.proofs.mended_heads.laws.a_queue_head_is_mended.Goals as goal

pub returns : goal.returns
returns c = record { ring = mend_leaves_ring; last = last_mend_ends }
