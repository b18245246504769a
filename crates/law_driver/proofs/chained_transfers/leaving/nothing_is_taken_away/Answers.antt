use Rattle.law_driver.proofs.lemmas.chained_transfers.Commands.{command_nothing}
use Rattle.law_driver.proofs.chained_transfers.leaving.nothing_is_taken_away.Goals as goal

pub returns : goal.returns
returns c = λ d m cmd o stands owners old none only is. command_nothing d m cmd o old.bulk none only is
