use Rattle.law_driver_ring.proofs.LendOpening.{lend_opens_drives}
use Rattle.law_driver_ring.proofs.Unmet.{open_is_unmet}
use Rattle.law_driver_ring.proofs.lend_laws.a_new_endpoint_is_lent.Goals as goal

pub returns : goal.returns
returns c = record { unmet = open_is_unmet; opens = lend_opens_drives }
