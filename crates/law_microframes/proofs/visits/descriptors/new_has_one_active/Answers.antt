use Rattle.law_microframes.proofs.lemmas.visits.OneDescriptorWorlds.{new_has_one_active}
use Rattle.law_microframes.proofs.visits.descriptors.new_has_one_active.Goals as goal

pub returns : goal.returns
returns c = new_has_one_active
