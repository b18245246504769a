use Rattle.law_microframes.proofs.lemmas.time.TurnTexts.{texts_end_microframes}
use Rattle.law_microframes.proofs.time.turns_end.texts_end_microframes.Goals as goal

pub returns : goal.returns
returns c = texts_end_microframes
