use Rattle.law_world.proofs.lemmas.memory.FittingTexts.{texts_open_fitting}
use Rattle.law_world.proofs.memory.runs.texts_open_fitting.Goals as goal

pub returns : goal.returns
returns c = texts_open_fitting
