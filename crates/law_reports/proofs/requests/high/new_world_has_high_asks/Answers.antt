use Rattle.law_reports.proofs.lemmas.requests.HighOpening.{new_world_high_asks}
use Rattle.law_reports.proofs.requests.high.new_world_has_high_asks.Goals as goal

pub returns : goal.returns
returns c = new_world_high_asks
