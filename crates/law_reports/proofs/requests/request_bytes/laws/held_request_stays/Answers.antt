use Rattle.law_reports.proofs.lemmas.requests.lemmas.request_bytes.Accepting.{held_request_stays}
use Rattle.law_reports.proofs.requests.request_bytes.laws.held_request_stays.Goals as goal

pub returns : goal.returns
returns c = held_request_stays
