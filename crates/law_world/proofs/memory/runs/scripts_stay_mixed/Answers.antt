use Rattle.law_world.proofs.lemmas.memory.Together.{scripts_stay_mixed}
use Rattle.law_world.proofs.memory.runs.scripts_stay_mixed.Goals as goal

pub returns : goal.returns
returns c = scripts_stay_mixed
