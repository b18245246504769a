use Rattle.law_microframes.proofs.lemmas.worked_visits.DueSampled.{due_in_time}
use Rattle.law_microframes.proofs.worked_visits.rows.a_microphone_is_in_time.Goals as goal

pub returns-clause-ahead : goal.returns-clause-ahead
returns-clause-ahead c = due_in_time.0

pub returns-clause-fetched : goal.returns-clause-fetched
returns-clause-fetched c = due_in_time.1

pub returns-clause-walks : goal.returns-clause-walks
returns-clause-walks c = due_in_time.2

pub returns-clause-allowed : goal.returns-clause-allowed
returns-clause-allowed c = due_in_time.3

pub returns-clause-in_time : goal.returns-clause-in_time
returns-clause-in_time c = due_in_time.4

pub returns-clause-paid : goal.returns-clause-paid
returns-clause-paid c = due_in_time.5

pub returns-clause-left : goal.returns-clause-left
returns-clause-left c = due_in_time.6

pub returns-clause-rest : goal.returns-clause-rest
returns-clause-rest c = due_in_time.7
