use Rattle.law_driver.proofs.lemmas.queued_drivers.RowEvents.{row_told}
use Rattle.law_driver.proofs.queued_drivers.rows.queue_rows_agree.Goals as goal

pub returns : goal.returns
returns c = λ p row. row_told row p
