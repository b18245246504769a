use Rattle.law_reports.proofs.lemmas.due_at_begin.SitdSampled.{speaker_begins, speaker_is_due, speaker_has_it}
use Rattle.law_reports.proofs.due_at_begin.sitds_worked.a_sitd_is_due_at_begin.Goals as goal

pub returns-clause-begins : goal.returns-clause-begins
returns-clause-begins c = speaker_begins

pub returns-clause-due : goal.returns-clause-due
returns-clause-due c = speaker_is_due

pub returns-clause-own : goal.returns-clause-own
returns-clause-own c = speaker_has_it
