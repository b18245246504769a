use Rattle.law_driver.proofs.lemmas.queued_drivers.RowFrames.{frames_leave}
use Rattle.law_driver.proofs.queued_drivers.rows.other_rows_leave_queues.Goals as goal

pub returns : goal.returns
returns c = λ p row. frames_leave row p
