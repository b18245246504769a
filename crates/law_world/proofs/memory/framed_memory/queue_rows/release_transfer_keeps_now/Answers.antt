use Rattle.law_world.proofs.lemmas.memory.lemmas.framed_memory.Releasing.{release_transfer_keeps_now}
use Rattle.law_world.proofs.memory.framed_memory.queue_rows.release_transfer_keeps_now.Goals as goal

pub returns : goal.returns
returns c = release_transfer_keeps_now
