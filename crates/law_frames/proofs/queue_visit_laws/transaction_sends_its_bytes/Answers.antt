use Rattle.law_frames.proofs.Making.{transaction_sends_its_bytes}
use Rattle.law_frames.proofs.queue_visit_laws.transaction_sends_its_bytes.Goals as goal

pub returns : goal.returns
returns c = transaction_sends_its_bytes
