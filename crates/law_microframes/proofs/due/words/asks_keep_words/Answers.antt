use Rattle.law_microframes.proofs.lemmas.due.lemmas.repeats.HubWords.{asks_keep_words}
use Rattle.law_microframes.proofs.due.words.asks_keep_words.Goals as goal

pub returns : goal.returns
returns c = asks_keep_words
