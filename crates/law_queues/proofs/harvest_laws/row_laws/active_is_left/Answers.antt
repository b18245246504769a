use Rattle.law_queues.proofs.lemmas.harvest_laws.RowHarvesting.{active_is_left}
use Rattle.law_queues.proofs.harvest_laws.row_laws.active_is_left.Goals as goal

pub returns : goal.returns
returns c = active_is_left
