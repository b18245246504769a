use Rattle.law_driver.proofs.lemmas.lent_runs.Laws.{opening_runs_are_lent}
use Rattle.law_driver.proofs.lent_runs.opening_runs_are_lent.Goals as goal

pub returns : goal.returns
returns c = opening_runs_are_lent
