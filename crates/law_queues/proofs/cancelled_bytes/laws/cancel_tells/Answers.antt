use Rattle.law_queues.proofs.lemmas.cancelled_bytes.Cancelling.{cancel_tells}
use Rattle.law_queues.proofs.cancelled_bytes.laws.cancel_tells.Goals as goal

pub returns : goal.returns
returns c = cancel_tells
