use Rattle.law_microframes.proofs.lemmas.worked_visits.Sampled.{a_time}
use Rattle.law_microframes.proofs.worked_visits.rows.a_keyboard_is_in_time.Goals as goal

pub returns-clause-walks : goal.returns-clause-walks
returns-clause-walks c = a_time.0

pub returns-clause-allowed : goal.returns-clause-allowed
returns-clause-allowed c = a_time.1

pub returns-clause-rest : goal.returns-clause-rest
returns-clause-rest c = a_time.2

pub returns-clause-in_time : goal.returns-clause-in_time
returns-clause-in_time c = a_time.3
