use Rattle.law_world.proofs.lemmas.memory.lemmas.framed_memory.Leaving.{endpoint_leaves_now}
use Rattle.law_world.proofs.memory.framed_memory.leaves.endpoint_leaves_now.Goals as goal

pub returns : goal.returns
returns c = endpoint_leaves_now
