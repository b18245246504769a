use Rattle.law_microframes.proofs.lemmas.due.lemmas.repeats.RepeatMoments.{texts_say_words}
use Rattle.law_microframes.proofs.due.repeats.texts_say_words.Goals as goal

pub returns : goal.returns
returns c = texts_say_words
