use Rattle.law_world.proofs.lemmas.memory.lemmas.owned_blocks.Lent.{needed_runs_are_lent}
use Rattle.law_world.proofs.memory.owned_blocks.laws.needed_runs_are_lent.Goals as goal

pub returns : goal.returns
returns c = needed_runs_are_lent
