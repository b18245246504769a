use Rattle.law_driver.proofs.lemmas.listed_queues.Linked.{queue_heads_are_linked}
use Rattle.law_driver.proofs.listed_queues.queue_heads_are_linked.Goals as goal

pub returns : goal.returns
returns c = queue_heads_are_linked
