use Rattle.law_reports.proofs.lemmas.requests.Missed.{walk_misses_none}
use Rattle.law_reports.proofs.requests.no_misses.walk_misses_none.Goals as goal

pub returns : goal.returns
returns g c = walk_misses_none g.W.Wire.transacts
