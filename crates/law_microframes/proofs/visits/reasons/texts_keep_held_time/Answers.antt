use Rattle.law_microframes.proofs.lemmas.visits.ReasonHeld.{texts_keep_held_time}
use Rattle.law_microframes.proofs.visits.reasons.texts_keep_held_time.Goals as goal

pub returns : goal.returns
returns c = texts_keep_held_time
