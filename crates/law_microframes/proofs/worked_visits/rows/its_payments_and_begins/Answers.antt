use Rattle.law_microframes.proofs.lemmas.worked_visits.Sampled.{typed_paid, typed_begun}
use Rattle.law_microframes.proofs.worked_visits.rows.its_payments_and_begins.Goals as goal

pub returns-clause-paid : goal.returns-clause-paid
returns-clause-paid c = typed_paid

pub returns-clause-begun : goal.returns-clause-begun
returns-clause-begun c = typed_begun
