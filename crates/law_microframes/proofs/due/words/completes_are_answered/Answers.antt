use Rattle.law_microframes.proofs.lemmas.due.lemmas.repeats.Heard.{reply_word}
use Rattle.law_microframes.proofs.due.words.completes_are_answered.Goals as goal

pub returns : goal.returns
returns c = reply_word
