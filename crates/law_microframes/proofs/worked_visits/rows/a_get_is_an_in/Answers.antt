use Rattle.law_microframes.proofs.lemmas.worked_visits.Sampled.{a_get}
use Rattle.law_microframes.proofs.worked_visits.rows.a_get_is_an_in.Goals as goal

pub returns-clause-kinds : goal.returns-clause-kinds
returns-clause-kinds c = a_get.0

pub returns-clause-transfer : goal.returns-clause-transfer
returns-clause-transfer c = a_get.1

pub returns-clause-block : goal.returns-clause-block
returns-clause-block c = a_get.2

pub returns-clause-active : goal.returns-clause-active
returns-clause-active c = a_get.3

pub returns-clause-pid : goal.returns-clause-pid
returns-clause-pid c = a_get.4
