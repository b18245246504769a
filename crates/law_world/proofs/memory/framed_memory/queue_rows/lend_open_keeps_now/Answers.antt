use Rattle.law_world.proofs.lemmas.memory.lemmas.framed_memory.OpenLends.{lend_open_keeps_now}
use Rattle.law_world.proofs.memory.framed_memory.queue_rows.lend_open_keeps_now.Goals as goal

pub returns : goal.returns
returns c = lend_open_keeps_now
