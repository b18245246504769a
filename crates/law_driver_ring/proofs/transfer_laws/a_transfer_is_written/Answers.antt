use Rattle.law_driver_ring.proofs.TransferAccepting.{accepted_awaits_lend}
use Rattle.law_driver_ring.proofs.Stays.{written_stays}
use Rattle.law_driver_ring.proofs.transfer_laws.a_transfer_is_written.Goals as goal

pub returns : goal.returns
returns c = record { accepted = accepted_awaits_lend; stays = written_stays }
