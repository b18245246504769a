use Rattle.law_microframes.proofs.lemmas.due.lemmas.slots.Sampled.{slot_done}
use Rattle.law_microframes.proofs.due.slots_worked.a_slot_is_done.Goals as goal

pub returns-clause-past : goal.returns-clause-past
returns-clause-past c = slot_done.0

pub returns-clause-free : goal.returns-clause-free
returns-clause-free c = slot_done.1

pub returns-clause-active : goal.returns-clause-active
returns-clause-active c = slot_done.2

pub returns-clause-done : goal.returns-clause-done
returns-clause-done c = slot_done.3
