use Rattle.law_reports.proofs.lemmas.due_at_begin.SplitSampled.{complete_isnt_made, complete_is_over, complete_is_made}
use Rattle.law_reports.proofs.due_at_begin.splits_worked.a_complete_split_is_made.Goals as goal

pub returns-clause-not_yet : goal.returns-clause-not_yet
returns-clause-not_yet c = complete_isnt_made

pub returns-clause-over : goal.returns-clause-over
returns-clause-over c = complete_is_over

pub returns-clause-marked : goal.returns-clause-marked
returns-clause-marked c = complete_is_made.0

pub returns-clause-waits : goal.returns-clause-waits
returns-clause-waits c = complete_is_made.1
