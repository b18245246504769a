use Rattle.law_microframes.proofs.lemmas.visits.OneDescriptorOffered.{command_starts_new}
use Rattle.law_microframes.proofs.visits.descriptors.command_starts_new.Goals as goal

pub returns : goal.returns
returns c = command_starts_new
