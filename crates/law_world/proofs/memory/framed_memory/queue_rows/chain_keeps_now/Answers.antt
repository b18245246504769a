use Rattle.law_world.proofs.lemmas.memory.lemmas.framed_memory.Chained.{chain_keeps_now}
use Rattle.law_world.proofs.memory.framed_memory.queue_rows.chain_keeps_now.Goals as goal

pub returns : goal.returns
returns c = chain_keeps_now
