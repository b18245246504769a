use Rattle.law_reports.proofs.lemmas.requests.CancelledTold.{driver_keeps_cancelled}
use Rattle.law_reports.proofs.requests.cancelled.driver_keeps_cancelled.Goals as goal

pub returns : goal.returns
returns c = driver_keeps_cancelled
