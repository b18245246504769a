use Rattle.law_microframes.proofs.lemmas.due.lemmas.repeats.RepeatMoments.{texts_are_heard}
use Rattle.law_microframes.proofs.due.repeats.texts_are_heard.Goals as goal

pub returns : goal.returns
returns c = texts_are_heard
