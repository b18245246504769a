use Rattle.law_reports.proofs.lemmas.requests.Missed.{harvest_misses_none}
use Rattle.law_reports.proofs.requests.no_misses.harvest_misses_none.Goals as goal

pub returns : goal.returns
returns c = harvest_misses_none
