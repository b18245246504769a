use Rattle.law_descriptors.proofs.Accepted.{accepted_await_lend}
use Rattle.law_descriptors.proofs.LendStaying.{frames_await_lend, written_stay}
use Rattle.law_descriptors.proofs.lend_laws.descriptors_are_written.Goals as goal

pub returns : goal.returns
returns c = record { accepted = accepted_await_lend; frames = frames_await_lend; stay = written_stay }
