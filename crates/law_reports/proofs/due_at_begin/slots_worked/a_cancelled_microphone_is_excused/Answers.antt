use Rattle.law_reports.proofs.lemmas.due_at_begin.SlotSampled.{cancelled_isnt_kept}
use Rattle.law_reports.proofs.due_at_begin.slots_worked.a_cancelled_microphone_is_excused.Goals as goal

pub returns : goal.returns
returns c = cancelled_isnt_kept
