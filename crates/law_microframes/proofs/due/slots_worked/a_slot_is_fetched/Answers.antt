use Rattle.law_microframes.proofs.lemmas.due.lemmas.slots.Sampled.{not_done_yet, slot_fetched, still_walking}
use Rattle.law_microframes.proofs.due.slots_worked.a_slot_is_fetched.Goals as goal

pub returns-clause-active : goal.returns-clause-active
returns-clause-active c = slot_fetched.0

pub returns-clause-done : goal.returns-clause-done
returns-clause-done c = slot_fetched.1

pub returns-clause-walking : goal.returns-clause-walking
returns-clause-walking c = still_walking

pub returns-clause-before : goal.returns-clause-before
returns-clause-before c = not_done_yet
