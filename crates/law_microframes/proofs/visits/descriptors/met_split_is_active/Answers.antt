use Rattle.law_microframes.proofs.lemmas.visits.OneDescriptorMet.{met_split_is_active}
use Rattle.law_microframes.proofs.visits.descriptors.met_split_is_active.Goals as goal

pub returns : goal.returns
returns c = met_split_is_active
