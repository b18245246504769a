use Rattle.law_driver_ring.proofs.Releasing.{release_drives}
use Rattle.law_driver_ring.proofs.release_laws.release_drives.Goals as goal

pub returns : goal.returns
returns c = release_drives
