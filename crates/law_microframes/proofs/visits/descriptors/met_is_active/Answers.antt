use Rattle.law_microframes.proofs.lemmas.visits.OneDescriptorMet.{met_is_active}
use Rattle.law_microframes.proofs.visits.descriptors.met_is_active.Goals as goal

pub returns : goal.returns
returns c = met_is_active
