use Rattle.law_queues.proofs.lemmas.harvest_laws.Standing.{beside_told}
use Rattle.law_queues.proofs.harvest_laws.told_laws.the_controller_leaves_what_is_told.Goals as goal

pub returns : goal.returns
returns g c = beside_told g.W.Wire.begins g.W.Wire.transacts
