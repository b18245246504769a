use Rattle.law_reports.proofs.lemmas.due_at_begin.ResultSampled.{result_isnt_taken, result_is_over, result_is_kept, result_is_taken}
use Rattle.law_reports.proofs.due_at_begin.splits_worked.a_result_is_taken.Goals as goal

pub returns-clause-not_yet : goal.returns-clause-not_yet
returns-clause-not_yet c = result_isnt_taken

pub returns-clause-over : goal.returns-clause-over
returns-clause-over c = result_is_over

pub returns-clause-kept : goal.returns-clause-kept
returns-clause-kept c = result_is_kept

pub returns-clause-taken : goal.returns-clause-taken
returns-clause-taken c = result_is_taken
