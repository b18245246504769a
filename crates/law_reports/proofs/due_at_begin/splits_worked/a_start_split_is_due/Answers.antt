use Rattle.law_reports.proofs.lemmas.due_at_begin.SplitSampled.{start_begins, keyboard_starts, no_start_there}
use Rattle.law_reports.proofs.due_at_begin.splits_worked.a_start_split_is_due.Goals as goal

pub returns-clause-begins : goal.returns-clause-begins
returns-clause-begins c = start_begins

pub returns-clause-due : goal.returns-clause-due
returns-clause-due c = keyboard_starts

pub returns-clause-elsewhere : goal.returns-clause-elsewhere
returns-clause-elsewhere c = no_start_there
