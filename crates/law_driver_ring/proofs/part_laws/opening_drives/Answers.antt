use Rattle.law_driver_ring.proofs.PartOpening.{opening_drives}
use Rattle.law_driver_ring.proofs.part_laws.opening_drives.Goals as goal

pub returns : goal.returns
returns c = opening_drives
