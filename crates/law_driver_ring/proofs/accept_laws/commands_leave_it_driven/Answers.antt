use Rattle.law_driver_ring.proofs.Commanding.{open_drives, transfer_drives, cancel_drives}
use Rattle.law_driver_ring.proofs.accept_laws.commands_leave_it_driven.Goals as goal

pub returns : goal.returns
returns c = record { opening = open_drives; transfer = transfer_drives; cancelling = cancel_drives }
