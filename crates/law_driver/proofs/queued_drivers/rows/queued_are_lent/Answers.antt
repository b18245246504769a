use Rattle.law_driver.proofs.lemmas.queued_drivers.RowOwners.{queued_are_lent}
use Rattle.law_driver.proofs.queued_drivers.rows.queued_are_lent.Goals as goal

pub returns : goal.returns
returns c = queued_are_lent
