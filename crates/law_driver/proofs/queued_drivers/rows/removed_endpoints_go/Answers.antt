use Rattle.law_driver.proofs.lemmas.queued_drivers.RowRemovals.{goes_back}
use Rattle.law_driver.proofs.queued_drivers.rows.removed_endpoints_go.Goals as goal

pub returns : goal.returns
returns c = goes_back
