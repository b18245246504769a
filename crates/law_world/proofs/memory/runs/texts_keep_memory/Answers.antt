use Rattle.law_world.proofs.lemmas.memory.Together.{texts_keep_memory}
use Rattle.law_world.proofs.memory.runs.texts_keep_memory.Goals as goal

pub returns : goal.returns
returns c = texts_keep_memory
