use Rattle.law_reports.proofs.lemmas.due_at_begin.SlotMoments.{texts_do_slots_at_begin}
use Rattle.law_reports.proofs.due_at_begin.slots.texts_do_slots_at_begin.Goals as goal

pub returns : goal.returns
returns c = texts_do_slots_at_begin
