-- Of each script that a text spells: the walk comes to each, and what is due is done.
use Rattle.law_microframes.specs.due.Laws.{TextsKeepDue}
use Rattle.law_microframes.proofs.lemmas.due.Coming.{texts_come_to_each}
use Rattle.law_microframes.proofs.lemmas.due.Moments.{texts_do_what_is_due}

pub texts_keep_due : TextsKeepDue
texts_keep_due text s spelled = record { comes = texts_come_to_each text s spelled; done = texts_do_what_is_due text s spelled }
