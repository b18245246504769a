use Rattle.law_driver.proofs.lemmas.queued_drivers.RowTurns.{new_driver_queues}
use Rattle.law_driver.proofs.queued_drivers.rows.new_driver_queues.Goals as goal

pub returns : goal.returns
returns c = new_driver_queues
