use Rattle.law_microframes.proofs.lemmas.visits.ReasonPlace.{worlds_keep_place}
use Rattle.law_microframes.proofs.visits.reasons.worlds_keep_place.Goals as goal

pub returns : goal.returns
returns c = worlds_keep_place
