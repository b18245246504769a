use Rattle.law_driver.proofs.lemmas.chained_transfers.Commands.{commands_keep_turns}
use Rattle.law_driver.proofs.chained_transfers.laws.commands_keep_turns.Goals as goal

pub returns : goal.returns
returns c = commands_keep_turns
