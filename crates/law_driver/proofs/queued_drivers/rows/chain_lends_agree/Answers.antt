use Rattle.law_driver.proofs.lemmas.queued_drivers.RowFrames.{chain_lends_agree}
use Rattle.law_driver.proofs.queued_drivers.rows.chain_lends_agree.Goals as goal

pub returns : goal.returns
returns c = chain_lends_agree
