use Rattle.law_queues.proofs.lemmas.released_tails.Reaching.{release_keeps_reaches}
use Rattle.law_queues.proofs.released_tails.laws.release_keeps_reaches.Goals as goal

pub returns : goal.returns
returns c = release_keeps_reaches
