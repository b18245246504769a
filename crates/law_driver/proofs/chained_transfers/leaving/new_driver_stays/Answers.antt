use Rattle.law_driver.proofs.lemmas.chained_transfers.Events.{new_driver_stays}
use Rattle.law_driver.proofs.chained_transfers.leaving.new_driver_stays.Goals as goal

pub returns : goal.returns
returns c = new_driver_stays
