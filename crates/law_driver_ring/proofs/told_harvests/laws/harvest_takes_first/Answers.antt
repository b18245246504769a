use Rattle.law_driver_ring.proofs.lemmas.told_harvests.Passing.{harvest_takes_first}
use Rattle.law_driver_ring.proofs.told_harvests.laws.harvest_takes_first.Goals as goal

pub returns : goal.returns
returns c = harvest_takes_first
