use Rattle.law_descriptors.proofs.LendStaying.{frames_describe}
use Rattle.law_descriptors.proofs.lend_laws.frames_describe.Goals as goal

pub returns : goal.returns
returns c = record { frames = frames_describe }
