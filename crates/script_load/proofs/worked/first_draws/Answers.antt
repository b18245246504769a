use Rattle.std.proofs.Common.{refl}
use Rattle.script_load.specs.Load.{draws}
use Rattle.script_load.proofs.worked.first_draws.Goals as goal

pub returns-clause-halves : goal.returns-clause-halves
unfolding draws
returns-clause-halves c = refl
