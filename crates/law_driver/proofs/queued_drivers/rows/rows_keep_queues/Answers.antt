use Rattle.law_driver.proofs.lemmas.queued_drivers.RowTurns.{rows_keep_queues}
use Rattle.law_driver.proofs.queued_drivers.rows.rows_keep_queues.Goals as goal

pub returns : goal.returns
returns c = rows_keep_queues
