use Rattle.law_driver.proofs.lemmas.lent_runs.Laws.{commands_keep_them}
use Rattle.law_driver.proofs.lent_runs.commands_keep_them.Goals as goal

pub returns : goal.returns
returns c = commands_keep_them
