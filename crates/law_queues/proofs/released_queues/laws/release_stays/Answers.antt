use Rattle.law_queues.proofs.lemmas.released_queues.Staying.{release_stays}
use Rattle.law_queues.proofs.released_queues.laws.release_stays.Goals as goal

pub returns : goal.returns
returns c = release_stays
