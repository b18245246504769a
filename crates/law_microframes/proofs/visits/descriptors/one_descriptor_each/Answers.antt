use Rattle.law_microframes.proofs.lemmas.visits.OneDescriptor.{one_descriptor_each}
use Rattle.law_microframes.proofs.visits.descriptors.one_descriptor_each.Goals as goal

pub returns : goal.returns
returns c = one_descriptor_each
