use Rattle.law_microframes.proofs.lemmas.visits.OneDescriptorWorlds.{controller_starts_none}
use Rattle.law_microframes.proofs.visits.descriptors.controller_starts_none.Goals as goal

pub returns : goal.returns
returns c = controller_starts_none
