use Rattle.law_microframes.proofs.lemmas.visits.VisitsKept.{texts_visit_each}
use Rattle.law_microframes.proofs.visits.coverage.texts_visit_each.Goals as goal

pub returns : goal.returns
returns c = texts_visit_each
