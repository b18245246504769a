use Rattle.law_reports.proofs.lemmas.due_at_begin.SitdSampled.{microphone_is_due, microphone_isnt_due}
use Rattle.law_reports.proofs.due_at_begin.sitds_worked.a_start_split_that_is_made_isnt_due.Goals as goal

pub returns-clause-due : goal.returns-clause-due
returns-clause-due c = microphone_is_due

pub returns-clause-made : goal.returns-clause-made
returns-clause-made c = microphone_isnt_due
