use Rattle.law_microframes.proofs.lemmas.visits.OneDescriptorOffered.{command_keeps_one_active}
use Rattle.law_microframes.proofs.visits.descriptors.command_keeps_one_active.Goals as goal

pub returns : goal.returns
returns c = command_keeps_one_active
