use Rattle.law_driver.proofs.lemmas.chained_transfers.Events.{nothing_starts_to_leave}
use Rattle.law_driver.proofs.chained_transfers.leaving.nothing_starts_to_leave.Goals as goal

pub returns : goal.returns
returns c = nothing_starts_to_leave
