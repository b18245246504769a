use Rattle.law_world.proofs.lemmas.memory.lemmas.framed_memory.ChainedRuns.{chain_stands_beside}
use Rattle.law_world.proofs.memory.framed_memory.queue_rows.chain_stands_beside.Goals as goal

pub returns : goal.returns
returns g c = chain_stands_beside g.W.Wire.begins g.W.Wire.transacts
