use Rattle.law_reports.proofs.lemmas.quiet.HeardSampled.{above_is_lost, nyet_is_none}
use Rattle.law_reports.proofs.quiet.a_loss_above_breaks_it.Goals as goal

pub returns-clause-lost : goal.returns-clause-lost
returns-clause-lost c = above_is_lost

pub returns-clause-nyet : goal.returns-clause-nyet
returns-clause-nyet c = nyet_is_none
