use Rattle.law_reports.proofs.lemmas.due_at_begin.Sampled.{lost_isnt_due, cancelled_isnt_kept}
use Rattle.law_reports.proofs.due_at_begin.worked.a_keyboard_is_excused.Goals as goal

pub returns-clause-lost : goal.returns-clause-lost
returns-clause-lost c = lost_isnt_due

pub returns-clause-cancelled : goal.returns-clause-cancelled
returns-clause-cancelled c = cancelled_isnt_kept
