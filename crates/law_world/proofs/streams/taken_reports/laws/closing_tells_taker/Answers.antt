use Rattle.law_world.proofs.lemmas.streams.lemmas.taken_reports.Closing.{closing_tells_taker}
use Rattle.law_world.proofs.streams.taken_reports.laws.closing_tells_taker.Goals as goal

pub returns : goal.returns
returns c = closing_tells_taker
