use Rattle.law_reports.proofs.lemmas.due_at_begin.SplitSampled.{complete_begins, keyboard_completes, no_complete_there}
use Rattle.law_reports.proofs.due_at_begin.splits_worked.a_complete_split_is_due.Goals as goal

pub returns-clause-begins : goal.returns-clause-begins
returns-clause-begins c = complete_begins

pub returns-clause-due : goal.returns-clause-due
returns-clause-due c = keyboard_completes

pub returns-clause-missed : goal.returns-clause-missed
returns-clause-missed c = no_complete_there
