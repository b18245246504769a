use Rattle.law_world.proofs.lemmas.memory.lemmas.framed_memory.LeavingUnmet.{interrupt_is_unmet, ring_is_unmet}
use Rattle.law_world.proofs.memory.framed_memory.leaves.an_endpoint_given_back_is_not_met.Goals as goal

pub returns : goal.returns
returns c = record { frames = interrupt_is_unmet; ring = ring_is_unmet }
