use Rattle.law_world.proofs.lemmas.memory.OwnControl.{runs_write_their_own}
use Rattle.law_world.proofs.memory.owners.runs_write_their_own.Goals as goal

pub returns : goal.returns
returns g c = runs_write_their_own g.W.Wire.begins g.W.Wire.transacts
