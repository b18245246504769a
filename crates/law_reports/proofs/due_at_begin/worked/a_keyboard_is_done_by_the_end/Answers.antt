use Rattle.law_microframes.proofs.lemmas.due.Sampled.{keyboard_is_done}
use Rattle.law_reports.proofs.lemmas.due_at_begin.Sampled.{keyboard_is_kept}
use Rattle.law_reports.proofs.due_at_begin.worked.a_keyboard_is_done_by_the_end.Goals as goal

pub returns-clause-not_yet : goal.returns-clause-not_yet
returns-clause-not_yet c = keyboard_is_done.0

pub returns-clause-over : goal.returns-clause-over
returns-clause-over c = keyboard_is_done.2

pub returns-clause-kept : goal.returns-clause-kept
returns-clause-kept c = keyboard_is_kept

pub returns-clause-done : goal.returns-clause-done
returns-clause-done c = keyboard_is_done.3
