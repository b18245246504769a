use Rattle.law_microframes.proofs.lemmas.due.lemmas.slots.Moments.{texts_serve_slots}
use Rattle.law_microframes.proofs.due.slots.texts_serve_slots.Goals as goal

pub returns : goal.returns
returns c = texts_serve_slots
