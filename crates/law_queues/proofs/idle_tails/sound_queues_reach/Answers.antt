use Rattle.law_queues.proofs.lemmas.idle_tails.Reaching.{sound_queues_reach}
use Rattle.law_queues.proofs.idle_tails.sound_queues_reach.Goals as goal

pub returns : goal.returns
returns c = sound_queues_reach
