use Rattle.law_world.proofs.lemmas.memory.lemmas.framed_memory.QueueAccepting.{open_keeps_now, transfer_keeps_now}
use Rattle.law_world.proofs.memory.framed_memory.queue_rows.accepted_opens_and_transfers_are_framed_now.Goals as goal

pub returns : goal.returns
returns c = record { opening = open_keeps_now; transfer = transfer_keeps_now }
