use Rattle.law_reports.proofs.lemmas.due_at_begin.ResultSampled.{result_is_due, lost_isnt_due}
use Rattle.law_reports.proofs.due_at_begin.splits_worked.a_result_is_due.Goals as goal

pub returns-clause-due : goal.returns-clause-due
returns-clause-due c = result_is_due

pub returns-clause-lost : goal.returns-clause-lost
returns-clause-lost c = lost_isnt_due
