use Rattle.law_driver.proofs.lemmas.chained_transfers.Accepting.{asynchronous_command_is_accepted}
use Rattle.law_driver.proofs.chained_transfers.asynchronous.asynchronous_command_is_accepted.Goals as goal

pub returns : goal.returns
returns c = asynchronous_command_is_accepted
