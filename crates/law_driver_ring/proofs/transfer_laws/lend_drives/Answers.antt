use Rattle.law_driver_ring.proofs.Lends.{lend_drives}
use Rattle.law_driver_ring.proofs.transfer_laws.lend_drives.Goals as goal

pub returns : goal.returns
returns c = lend_drives
