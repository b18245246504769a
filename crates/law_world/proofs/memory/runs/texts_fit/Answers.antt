use Rattle.law_world.proofs.lemmas.memory.Texts.{texts_fit}
use Rattle.law_world.proofs.memory.runs.texts_fit.Goals as goal

pub returns : goal.returns
returns c = texts_fit
