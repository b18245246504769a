use Rattle.law_queues.proofs.lemmas.whole_sends.Sampled.{has_front, links_within, has_tail, with_tail}
use Rattle.law_queues.proofs.whole_sends.worked.a_queue_with_a_tail.Goals as goal

pub returns : goal.returns
returns c = record { front = has_front; within = links_within; tail = has_tail; sorted = with_tail }
