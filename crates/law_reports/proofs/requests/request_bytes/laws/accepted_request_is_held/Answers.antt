use Rattle.law_reports.proofs.lemmas.requests.lemmas.request_bytes.Accepting.{accepted_request_is_held}
use Rattle.law_reports.proofs.requests.request_bytes.laws.accepted_request_is_held.Goals as goal

pub returns : goal.returns
returns c = accepted_request_is_held
