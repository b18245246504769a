use Rattle.law_driver.proofs.lemmas.lent_runs.Laws.{all_are_lent_between_commands}
use Rattle.law_driver.proofs.lent_runs.all_are_lent_between_commands.Goals as goal

pub returns : goal.returns
returns c = all_are_lent_between_commands
