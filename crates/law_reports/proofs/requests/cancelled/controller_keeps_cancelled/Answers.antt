use Rattle.law_reports.proofs.lemmas.requests.CancelledTold.{controller_keeps_cancelled}
use Rattle.law_reports.proofs.requests.cancelled.controller_keeps_cancelled.Goals as goal

pub returns : goal.returns
returns c = controller_keeps_cancelled
