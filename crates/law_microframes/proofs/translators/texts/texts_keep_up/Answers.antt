use Rattle.law_microframes.proofs.lemmas.translators.TurnsTexts.{texts_keep_translators}
use Rattle.law_microframes.proofs.translators.texts.texts_keep_up.Goals as goal

pub returns : goal.returns
returns c = texts_keep_translators
