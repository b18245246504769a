use Rattle.law_driver.proofs.lemmas.queued_drivers.RowFrames.{chains_finish}
use Rattle.law_driver.proofs.queued_drivers.rows.chains_finish.Goals as goal

pub returns : goal.returns
returns c = chains_finish
