use Rattle.law_ring.proofs.SparedSparing.{accounts_are_spared, published_adds_nothing}
use Rattle.law_ring.proofs.spared_laws.what_is_published_is_accounted_for.Goals as goal

pub returns-clause-spared : goal.returns-clause-spared
returns-clause-spared c = accounts_are_spared

pub returns-clause-published : goal.returns-clause-published
returns-clause-published c = published_adds_nothing
