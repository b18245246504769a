use Rattle.law_world.proofs.lemmas.memory.OwnMoments.{texts_keep_to_owners}
use Rattle.law_world.proofs.memory.owners.texts_keep_to_owners.Goals as goal

pub returns : goal.returns
returns c = texts_keep_to_owners
