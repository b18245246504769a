use Rattle.law_queues.proofs.lemmas.reached_rings.Computing.{reached_is_reached, is_reached_reached, reached_has_queue_head, answer_reaches_fewer}
use Rattle.law_queues.proofs.reached_rings.laws.reached_queue_heads.Goals as goal

pub returns : goal.returns
returns c = record { computed = reached_is_reached; all = is_reached_reached; stand = reached_has_queue_head; fewer = answer_reaches_fewer }
