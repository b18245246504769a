use Rattle.law_microframes.proofs.lemmas.due.Coming.{texts_come_to_each}
use Rattle.law_microframes.proofs.due.due.texts_come_to_each.Goals as goal

pub returns : goal.returns
returns c = texts_come_to_each
