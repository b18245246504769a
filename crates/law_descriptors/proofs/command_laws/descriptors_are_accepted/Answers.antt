use Rattle.law_descriptors.proofs.CommandAccepting.{describes_leaves, describes_told, frames_told}
use Rattle.law_descriptors.proofs.command_laws.descriptors_are_accepted.Goals as goal

pub returns : goal.returns
returns c = record { leaves = describes_leaves; told = describes_told; frames = frames_told }
