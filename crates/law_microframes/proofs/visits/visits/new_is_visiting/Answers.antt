use Rattle.law_microframes.proofs.lemmas.visits.VisitOpening.{new_is_visiting}
use Rattle.law_microframes.proofs.visits.visits.new_is_visiting.Goals as goal

pub returns : goal.returns
returns c = new_is_visiting
