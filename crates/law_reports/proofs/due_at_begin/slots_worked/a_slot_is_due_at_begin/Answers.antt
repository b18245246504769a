use Rattle.law_reports.proofs.lemmas.due_at_begin.SlotSampled.{slot_begins, slot_is_due, slot_is_its_own}
use Rattle.law_reports.proofs.due_at_begin.slots_worked.a_slot_is_due_at_begin.Goals as goal

pub returns-clause-begins : goal.returns-clause-begins
returns-clause-begins c = slot_begins

pub returns-clause-due : goal.returns-clause-due
returns-clause-due c = slot_is_due

pub returns-clause-own : goal.returns-clause-own
returns-clause-own c = slot_is_its_own
