use Rattle.law_reports.proofs.lemmas.requests.Lent.{request_is_lent}
use Rattle.law_reports.proofs.requests.transfer_laws.request_is_lent.Goals as goal

pub returns : goal.returns
returns c = request_is_lent
