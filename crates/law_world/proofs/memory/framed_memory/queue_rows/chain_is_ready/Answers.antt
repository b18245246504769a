use Rattle.law_world.proofs.lemmas.memory.lemmas.framed_memory.Chains.{chain_is_ready}
use Rattle.law_world.proofs.memory.framed_memory.queue_rows.chain_is_ready.Goals as goal

pub returns : goal.returns
returns c = chain_is_ready
