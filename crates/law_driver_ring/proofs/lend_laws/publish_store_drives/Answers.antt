use Rattle.law_driver_ring.proofs.Publishing.{publish_store_drives}
use Rattle.law_driver_ring.proofs.lend_laws.publish_store_drives.Goals as goal

pub returns : goal.returns
returns c = record { stores = publish_store_drives }
