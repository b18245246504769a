use Rattle.law_world.proofs.lemmas.memory.SampledPlace.{plans_first}
use Rattle.law_world.proofs.memory.worked.its_place.Goals as goal

pub returns : goal.returns
returns c = plans_first
