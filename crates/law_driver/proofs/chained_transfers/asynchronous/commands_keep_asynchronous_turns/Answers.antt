use Rattle.law_driver.proofs.lemmas.chained_transfers.Commands.{commands_keep_asynchronous_turns}
use Rattle.law_driver.proofs.chained_transfers.asynchronous.commands_keep_asynchronous_turns.Goals as goal

pub returns : goal.returns
returns c = commands_keep_asynchronous_turns
