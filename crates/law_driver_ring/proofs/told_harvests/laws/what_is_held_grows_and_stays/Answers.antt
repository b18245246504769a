use Rattle.law_driver_ring.proofs.lemmas.told_harvests.Holding.{held_more, held_noted, held_still}
use Rattle.law_driver_ring.proofs.lemmas.told_harvests.Keeping.{spared_is_done}
use Rattle.law_driver_ring.proofs.told_harvests.laws.what_is_held_grows_and_stays.Goals as goal

pub returns-clause-grows : goal.returns-clause-grows
returns-clause-grows c = held_more

pub returns-clause-notes : goal.returns-clause-notes
returns-clause-notes c = held_noted

pub returns-clause-structures : goal.returns-clause-structures
returns-clause-structures c = held_still

pub returns-clause-spared : goal.returns-clause-spared
returns-clause-spared c = spared_is_done
