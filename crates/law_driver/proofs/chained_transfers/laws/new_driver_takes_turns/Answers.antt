use Rattle.law_driver.proofs.lemmas.chained_transfers.Events.{new_driver_takes_turns}
use Rattle.law_driver.proofs.chained_transfers.laws.new_driver_takes_turns.Goals as goal

pub returns : goal.returns
returns c = new_driver_takes_turns
