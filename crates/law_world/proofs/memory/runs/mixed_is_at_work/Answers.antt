use Rattle.law_world.proofs.lemmas.memory.Together.{mixed_is_at_work}
use Rattle.law_world.proofs.memory.runs.mixed_is_at_work.Goals as goal

pub returns : goal.returns
returns c = mixed_is_at_work
