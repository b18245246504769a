use Rattle.law_microframes.proofs.lemmas.due.lemmas.repeats.HubWords.{begins_keep}
use Rattle.law_microframes.proofs.due.words.begins_keep_words.Goals as goal

pub returns : goal.returns
returns c = begins_keep
