use Rattle.law_reports.proofs.lemmas.requests.QueuePublishing.{asked_store, rest_store, halted_store}
use Rattle.law_reports.proofs.requests.queue_laws.a_request_is_published.Goals as goal

pub returns : goal.returns
returns g c = record { asked = asked_store; first = rest_store; waits = halted_store }
