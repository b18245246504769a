use Rattle.law_microframes.proofs.lemmas.due.lemmas.repeats.RepeatMoments.{texts_repeat_after_losses}
use Rattle.law_microframes.proofs.due.repeats.texts_repeat_after_losses.Goals as goal

pub returns : goal.returns
returns c = texts_repeat_after_losses
