use Rattle.law_driver.proofs.lemmas.listed_queues.Rows.{events_keep_queue_heads}
use Rattle.law_driver.proofs.listed_queues.events_keep_queue_heads.Goals as goal

pub returns : goal.returns
returns c = events_keep_queue_heads
