use Rattle.law_driver_ring.proofs.Linking.{link_opens_drives}
use Rattle.law_driver_ring.proofs.lend_laws.link_opens_drives.Goals as goal

pub returns : goal.returns
returns c = record { links = link_opens_drives }
