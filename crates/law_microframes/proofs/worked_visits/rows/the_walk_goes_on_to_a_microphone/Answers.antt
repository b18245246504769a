use Rattle.law_microframes.proofs.lemmas.worked_visits.DueSampled.{due_ahead, due_active}
use Rattle.law_microframes.proofs.worked_visits.rows.the_walk_goes_on_to_a_microphone.Goals as goal

pub returns-clause-ahead : goal.returns-clause-ahead
returns-clause-ahead c = due_ahead

pub returns-clause-active : goal.returns-clause-active
returns-clause-active c = due_active
