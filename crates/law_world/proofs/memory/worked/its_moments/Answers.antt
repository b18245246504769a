use Rattle.law_world.proofs.lemmas.memory.Sampled.{typed_moment}
use Rattle.law_world.proofs.memory.worked.its_moments.Goals as goal

pub returns : goal.returns
returns c = typed_moment
