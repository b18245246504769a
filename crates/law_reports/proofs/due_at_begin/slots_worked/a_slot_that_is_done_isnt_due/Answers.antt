use Rattle.law_reports.proofs.lemmas.due_at_begin.SlotSampled.{done_isnt_due}
use Rattle.law_reports.proofs.due_at_begin.slots_worked.a_slot_that_is_done_isnt_due.Goals as goal

pub returns : goal.returns
returns c = done_isnt_due
