use Rattle.law_world.proofs.lemmas.memory.lemmas.framed_memory.LeavingReached.{interrupt_is_unreached, cleared_is_unreached}
use Rattle.law_world.proofs.memory.framed_memory.leaves.an_endpoint_given_back_is_not_reached.Goals as goal

pub returns : goal.returns
returns c = record { interrupt = interrupt_is_unreached; cleared = cleared_is_unreached }
