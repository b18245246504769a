use Rattle.law_reports.proofs.lemmas.due_at_begin.SplitSampled.{start_isnt_made, start_is_over, start_is_kept, start_is_made}
use Rattle.law_reports.proofs.due_at_begin.splits_worked.a_start_split_is_made.Goals as goal

pub returns-clause-not_yet : goal.returns-clause-not_yet
returns-clause-not_yet c = start_isnt_made

pub returns-clause-over : goal.returns-clause-over
returns-clause-over c = start_is_over

pub returns-clause-kept : goal.returns-clause-kept
returns-clause-kept c = start_is_kept

pub returns-clause-made : goal.returns-clause-made
returns-clause-made c = start_is_made
