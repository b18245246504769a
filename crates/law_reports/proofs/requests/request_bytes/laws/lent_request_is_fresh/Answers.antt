use Rattle.law_reports.proofs.lemmas.requests.lemmas.request_bytes.Fresh.{lent_request_is_fresh}
use Rattle.law_reports.proofs.requests.request_bytes.laws.lent_request_is_fresh.Goals as goal

pub returns : goal.returns
returns c = lent_request_is_fresh
