use Rattle.law_world.proofs.lemmas.memory.SampledMemory.{two_have_all_in_place, breaks_in_place}
use Rattle.law_world.proofs.memory.worked.its_structures_are_in_place.Goals as goal

pub returns : goal.returns
returns c = record { holds = two_have_all_in_place; breaks = breaks_in_place }
