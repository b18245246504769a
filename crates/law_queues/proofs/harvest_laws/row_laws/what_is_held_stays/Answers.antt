use Rattle.law_queues.proofs.lemmas.harvest_laws.Holding.{holds_the_same}
use Rattle.law_queues.proofs.lemmas.harvest_laws.RowHarvesting.{holds_still}
use Rattle.law_queues.proofs.harvest_laws.row_laws.what_is_held_stays.Goals as goal

pub returns-clause-same : goal.returns-clause-same
returns-clause-same c = holds_the_same

pub returns-clause-structures : goal.returns-clause-structures
returns-clause-structures c = holds_still
