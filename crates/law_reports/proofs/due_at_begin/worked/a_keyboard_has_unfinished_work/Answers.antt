use Rattle.law_reports.proofs.lemmas.due_at_begin.Sampled.{keyboard_has_unfinished, lost_has_none_ready}
use Rattle.law_reports.proofs.due_at_begin.worked.a_keyboard_has_unfinished_work.Goals as goal

pub returns-clause-work : goal.returns-clause-work
returns-clause-work c = keyboard_has_unfinished

pub returns-clause-lost : goal.returns-clause-lost
returns-clause-lost c = lost_has_none_ready
