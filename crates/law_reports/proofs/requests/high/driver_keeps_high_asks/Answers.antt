use Rattle.law_reports.proofs.lemmas.requests.HighWorld.{driver_keeps_high_asks}
use Rattle.law_reports.proofs.requests.high.driver_keeps_high_asks.Goals as goal

pub returns : goal.returns
returns c = driver_keeps_high_asks
