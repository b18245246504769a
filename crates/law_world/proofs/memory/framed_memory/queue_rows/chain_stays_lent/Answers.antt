use Rattle.law_world.proofs.lemmas.memory.lemmas.framed_memory.ChainedLent.{chain_stays_lent}
use Rattle.law_world.proofs.memory.framed_memory.queue_rows.chain_stays_lent.Goals as goal

pub returns : goal.returns
returns g c = chain_stays_lent g.W.Wire.begins g.W.Wire.transacts
