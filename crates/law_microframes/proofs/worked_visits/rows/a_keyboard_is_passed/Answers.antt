use Rattle.law_microframes.proofs.lemmas.worked_visits.Sampled.{a_payment}
use Rattle.law_microframes.proofs.worked_visits.rows.a_keyboard_is_passed.Goals as goal

pub returns-clause-begins : goal.returns-clause-begins
returns-clause-begins c = a_payment.0

pub returns-clause-reads : goal.returns-clause-reads
returns-clause-reads c = a_payment.1

pub returns-clause-passes : goal.returns-clause-passes
returns-clause-passes c = a_payment.2
