use Rattle.law_queues.proofs.lemmas.harvest_laws.Standing.{new_is_told}
use Rattle.law_queues.proofs.harvest_laws.told_laws.new_is_told.Goals as goal

pub returns : goal.returns
returns c = new_is_told
