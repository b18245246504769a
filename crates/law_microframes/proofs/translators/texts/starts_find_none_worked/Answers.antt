use Rattle.law_microframes.proofs.lemmas.translators.Fresh.{starts_find_none_worked}
use Rattle.law_microframes.proofs.translators.texts.starts_find_none_worked.Goals as goal

pub returns : goal.returns
returns c = starts_find_none_worked
