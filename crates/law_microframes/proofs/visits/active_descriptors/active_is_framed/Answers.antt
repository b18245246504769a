use Rattle.law_microframes.proofs.lemmas.visits.ActiveStands.{active_is_framed}
use Rattle.law_microframes.proofs.visits.active_descriptors.active_is_framed.Goals as goal

pub returns : goal.returns
returns c = active_is_framed
