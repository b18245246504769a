use Rattle.law_reports.proofs.lemmas.requests.CancelLine.{cancel_is_begun}
use Rattle.law_reports.proofs.requests.cancel_line.a_cancel_is_begun.Goals as goal

pub returns : goal.returns
returns c = cancel_is_begun
