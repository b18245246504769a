use Rattle.law_reports.proofs.lemmas.requests.HighController.{controller_keeps_high_asks}
use Rattle.law_reports.proofs.requests.high.controller_keeps_high_asks.Goals as goal

pub returns : goal.returns
returns c = controller_keeps_high_asks
