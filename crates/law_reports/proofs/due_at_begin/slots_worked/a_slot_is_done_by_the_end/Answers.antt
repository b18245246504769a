use Rattle.law_microframes.proofs.lemmas.due.lemmas.slots.Sampled.{slot_done}
use Rattle.law_reports.proofs.lemmas.due_at_begin.SlotSampled.{slot_isnt_done_yet, slot_is_done_then, microphone_is_kept}
use Rattle.law_reports.proofs.due_at_begin.slots_worked.a_slot_is_done_by_the_end.Goals as goal

pub returns-clause-not_yet : goal.returns-clause-not_yet
returns-clause-not_yet c = slot_isnt_done_yet

pub returns-clause-over : goal.returns-clause-over
returns-clause-over c = slot_done.0

pub returns-clause-free : goal.returns-clause-free
returns-clause-free c = slot_done.1

pub returns-clause-kept : goal.returns-clause-kept
returns-clause-kept c = microphone_is_kept

pub returns-clause-done : goal.returns-clause-done
returns-clause-done c = slot_is_done_then
