use Rattle.law_world.proofs.lemmas.memory.lemmas.framed_memory.LeavingReleased.{endpoint_release_now}
use Rattle.law_world.proofs.memory.framed_memory.leaves.endpoint_release_now.Goals as goal

pub returns : goal.returns
returns c = endpoint_release_now
