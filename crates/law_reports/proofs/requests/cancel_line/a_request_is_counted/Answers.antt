use Rattle.law_reports.proofs.lemmas.requests.CancelLine.{request_is_counted}
use Rattle.law_reports.proofs.requests.cancel_line.a_request_is_counted.Goals as goal

pub returns : goal.returns
returns c = request_is_counted
