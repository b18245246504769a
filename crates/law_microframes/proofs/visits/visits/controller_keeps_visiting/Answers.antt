use Rattle.law_microframes.proofs.lemmas.visits.VisitControlling.{controller_keeps_visiting}
use Rattle.law_microframes.proofs.visits.visits.controller_keeps_visiting.Goals as goal

pub returns : goal.returns
returns c = controller_keeps_visiting
