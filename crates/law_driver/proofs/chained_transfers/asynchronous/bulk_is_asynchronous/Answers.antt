use Rattle.law_driver.proofs.lemmas.chained_transfers.BulkAndControl.{bulk_is_asynchronous}
use Rattle.law_driver.proofs.chained_transfers.asynchronous.bulk_is_asynchronous.Goals as goal

pub returns : goal.returns
returns c = bulk_is_asynchronous
