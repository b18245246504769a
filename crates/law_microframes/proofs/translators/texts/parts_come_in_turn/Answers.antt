use Rattle.law_microframes.proofs.lemmas.translators.TurnsRuns.{texts_lack}
use Rattle.law_microframes.proofs.translators.texts.parts_come_in_turn.Goals as goal

pub returns : goal.returns
returns c = texts_lack
