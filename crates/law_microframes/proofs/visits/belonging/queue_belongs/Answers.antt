use Rattle.law_microframes.proofs.lemmas.visits.BelongQueues.{queue_belongs}
use Rattle.law_microframes.proofs.visits.belonging.queue_belongs.Goals as goal

pub returns : goal.returns
returns c = queue_belongs
