use Rattle.law_queues.proofs.lemmas.harvest_laws.Standing.{spared_is_told}
use Rattle.law_queues.proofs.harvest_laws.told_laws.spared_is_told.Goals as goal

pub returns : goal.returns
returns c = spared_is_told
