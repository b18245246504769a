use Rattle.law_queues.proofs.lemmas.cancelled_bytes.Cancelling.{cancel_tells_all}
use Rattle.law_queues.proofs.lemmas.cancelled_bytes.Line.{cancel_line_tells}
use Rattle.law_queues.proofs.cancelled_bytes.laws.a_cancelled_endpoint_is_told_to_its_end.Goals as goal

pub returns-clause-bytes : goal.returns-clause-bytes
returns-clause-bytes c = cancel_tells_all

pub returns-clause-lines : goal.returns-clause-lines
returns-clause-lines c = cancel_line_tells
