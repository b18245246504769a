use Rattle.law_world.proofs.lemmas.memory.OwnTold.{runs_tell_owners}
use Rattle.law_world.proofs.memory.owners.runs_tell_owners.Goals as goal

pub returns : goal.returns
returns c = runs_tell_owners
