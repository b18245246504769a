use Rattle.law_microframes.proofs.lemmas.translators.Starting.{interrupts_follow}
use Rattle.law_microframes.proofs.translators.texts.interrupts_follow.Goals as goal

pub returns : goal.returns
returns c = interrupts_follow
