use Rattle.law_reports.proofs.lemmas.due_at_begin.Sampled.{keyboard_begins, keyboard_is_due_at_begin}
use Rattle.law_reports.proofs.due_at_begin.worked.a_keyboard_is_due_at_begin.Goals as goal

pub returns-clause-begins : goal.returns-clause-begins
returns-clause-begins c = keyboard_begins

pub returns-clause-due : goal.returns-clause-due
returns-clause-due c = keyboard_is_due_at_begin
