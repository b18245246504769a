use Rattle.law_driver.proofs.lemmas.listed_queues.Commands.{opening_has_queue_heads}
use Rattle.law_driver.proofs.listed_queues.opening_has_queue_heads.Goals as goal

pub returns : goal.returns
returns c = opening_has_queue_heads
