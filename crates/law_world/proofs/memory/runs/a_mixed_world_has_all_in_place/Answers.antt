use Rattle.law_world.proofs.lemmas.memory.AtWork.{mixed_has_all_in_place}
use Rattle.law_world.proofs.memory.runs.a_mixed_world_has_all_in_place.Goals as goal

pub returns : goal.returns
returns c = mixed_has_all_in_place
