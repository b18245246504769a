use Rattle.law_driver_ring.proofs.Ready.{open_is_ready}
use Rattle.law_driver_ring.proofs.lend_laws.open_is_ready.Goals as goal

pub returns : goal.returns
returns c = record { ready = open_is_ready }
