use Rattle.law_driver.proofs.lemmas.lent_runs.Goes.{events_keep_them}
use Rattle.law_driver.proofs.lent_runs.events_keep_them.Goals as goal

pub returns : goal.returns
returns c = events_keep_them
