use Rattle.law_microframes.proofs.lemmas.visits.ReasonTexts.{texts_keep_place_of_ring}
use Rattle.law_microframes.proofs.visits.reasons.texts_keep_place_of_ring.Goals as goal

pub returns : goal.returns
returns c = texts_keep_place_of_ring
