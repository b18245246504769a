use Rattle.law_microframes.proofs.lemmas.due.Moments.{texts_do_what_is_due}
use Rattle.law_microframes.proofs.due.due.texts_do_what_is_due.Goals as goal

pub returns : goal.returns
returns c = texts_do_what_is_due
