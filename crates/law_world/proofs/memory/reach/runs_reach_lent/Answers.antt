use Rattle.law_world.proofs.lemmas.memory.WaysThere.{runs_reach_lent}
use Rattle.law_world.proofs.memory.reach.runs_reach_lent.Goals as goal

pub returns : goal.returns
returns c = runs_reach_lent
