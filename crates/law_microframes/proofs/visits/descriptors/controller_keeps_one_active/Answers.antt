use Rattle.law_microframes.proofs.lemmas.visits.OneDescriptorMet.{controller_keeps_one_active}
use Rattle.law_microframes.proofs.visits.descriptors.controller_keeps_one_active.Goals as goal

pub returns : goal.returns
returns c = controller_keeps_one_active
