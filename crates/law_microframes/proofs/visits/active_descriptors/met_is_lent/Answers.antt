use Rattle.law_microframes.proofs.lemmas.visits.ActiveStands.{met_is_lent}
use Rattle.law_microframes.proofs.visits.active_descriptors.met_is_lent.Goals as goal

pub returns : goal.returns
returns c = met_is_lent
