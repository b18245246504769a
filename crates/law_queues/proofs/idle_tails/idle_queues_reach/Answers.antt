use Rattle.law_queues.proofs.lemmas.idle_tails.Reaching.{idle_queues_reach}
use Rattle.law_queues.proofs.idle_tails.idle_queues_reach.Goals as goal

pub returns : goal.returns
returns c = idle_queues_reach
