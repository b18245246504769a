use Rattle.law_driver.proofs.lemmas.queued_drivers.RowOwners.{queued_has_owners}
use Rattle.law_driver.proofs.queued_drivers.rows.queued_has_owners.Goals as goal

pub returns : goal.returns
returns c = queued_has_owners
