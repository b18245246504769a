use Rattle.law_driver.proofs.lemmas.chained_transfers.Commands.{is_accepted}
use Rattle.law_driver.proofs.chained_transfers.leaving.command_is_accepted.Goals as goal

pub returns : goal.returns
returns c = λ d m cmd o stands owners old only is. is_accepted d m cmd o old.bulk only is
