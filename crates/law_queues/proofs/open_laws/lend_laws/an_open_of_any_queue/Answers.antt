use Rattle.law_queues.proofs.lemmas.open_laws.FinishedQueues.{open_finishes}
use Rattle.law_queues.proofs.lemmas.open_laws.HeadStores.{head_keeps_queues}
use Rattle.law_queues.proofs.lemmas.open_laws.LentQueues.{open_lend_is_made, open_lend_stands}
use Rattle.law_queues.proofs.lemmas.open_laws.Newest.{new_heads_rest}
use Rattle.law_queues.proofs.open_laws.lend_laws.an_open_of_any_queue.Goals as goal

pub returns : goal.returns
returns c = record { lend = open_lend_stands; made = open_lend_is_made; finishes = open_finishes; head = head_keeps_queues; rest = new_heads_rest }
