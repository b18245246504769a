use Rattle.law_microframes.proofs.lemmas.visits.OneDescriptorWorlds.{driver_keeps_one_active}
use Rattle.law_microframes.proofs.visits.descriptors.driver_keeps_one_active.Goals as goal

pub returns : goal.returns
returns c = driver_keeps_one_active
