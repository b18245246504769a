use Rattle.law_microframes.proofs.lemmas.time.RepeatAnswers.{translators_say_words}
use Rattle.law_microframes.proofs.time.repeats.translators_say_words.Goals as goal

pub returns : goal.returns
returns c = translators_say_words
