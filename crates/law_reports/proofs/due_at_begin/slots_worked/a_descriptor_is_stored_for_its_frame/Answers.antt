use Rattle.law_reports.proofs.lemmas.due_at_begin.SlotSampled.{slot_is_stored, slot_isnt_stored_yet}
use Rattle.law_reports.proofs.due_at_begin.slots_worked.a_descriptor_is_stored_for_its_frame.Goals as goal

pub returns-clause-stored : goal.returns-clause-stored
returns-clause-stored c = slot_is_stored

pub returns-clause-not_yet : goal.returns-clause-not_yet
returns-clause-not_yet c = slot_isnt_stored_yet
