use Rattle.law_microframes.proofs.lemmas.visits.VisitSampled.{its_visits}
use Rattle.law_microframes.proofs.visits.visit_samples.its_visits.Goals as goal

pub returns : goal.returns
returns c = its_visits
