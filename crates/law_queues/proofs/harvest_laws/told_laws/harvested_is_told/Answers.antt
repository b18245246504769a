use Rattle.law_queues.proofs.lemmas.harvest_laws.ToldHarvesting.{harvested_is_told}
use Rattle.law_queues.proofs.harvest_laws.told_laws.harvested_is_told.Goals as goal

pub returns : goal.returns
returns c = harvested_is_told
