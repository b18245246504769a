use Rattle.law_descriptors.proofs.ListDriving.{link_drives, unlink_drives}
use Rattle.law_descriptors.proofs.store_laws.a_driver_that_stores_goes_on.Goals as goal

pub returns : goal.returns
returns c = record { command = link_drives; harvested = unlink_drives }
