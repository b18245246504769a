use Rattle.law_reports.proofs.lemmas.requests.HighWorld.{command_keeps_high_asks}
use Rattle.law_reports.proofs.requests.high.command_keeps_high_asks.Goals as goal

pub returns : goal.returns
returns c = command_keeps_high_asks
