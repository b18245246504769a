use Rattle.law_microframes.proofs.lemmas.visits.OneDescriptorMoments.{each_moment_has_one_active}
use Rattle.law_microframes.proofs.visits.descriptors.each_moment_has_one_active.Goals as goal

pub returns : goal.returns
returns c = each_moment_has_one_active
