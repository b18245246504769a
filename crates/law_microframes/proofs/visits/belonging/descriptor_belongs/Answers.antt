use Rattle.law_microframes.proofs.lemmas.visits.BelongDescriptors.{descriptor_belongs}
use Rattle.law_microframes.proofs.visits.belonging.descriptor_belongs.Goals as goal

pub returns : goal.returns
returns c = descriptor_belongs
