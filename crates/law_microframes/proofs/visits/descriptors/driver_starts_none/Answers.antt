use Rattle.law_microframes.proofs.lemmas.visits.OneDescriptorWorlds.{driver_starts_none}
use Rattle.law_microframes.proofs.visits.descriptors.driver_starts_none.Goals as goal

pub returns : goal.returns
returns c = driver_starts_none
