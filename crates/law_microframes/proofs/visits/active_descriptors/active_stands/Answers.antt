use Rattle.law_microframes.proofs.lemmas.visits.ActiveStands.{active_stands}
use Rattle.law_microframes.proofs.visits.active_descriptors.active_stands.Goals as goal

pub returns : goal.returns
returns c = active_stands
