use Rattle.law_microframes.proofs.lemmas.due.Together.{texts_keep_due}
use Rattle.law_microframes.proofs.due.due.texts_keep_due.Goals as goal

pub returns : goal.returns
returns c = texts_keep_due
