use Rattle.law_queues.proofs.lemmas.harvest_laws.RowHarvesting.{harvest_is_told}
use Rattle.law_queues.proofs.harvest_laws.row_laws.harvest_is_told.Goals as goal

pub returns : goal.returns
returns c = harvest_is_told
