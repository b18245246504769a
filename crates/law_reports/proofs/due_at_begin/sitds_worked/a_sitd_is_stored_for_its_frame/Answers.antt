use Rattle.law_reports.proofs.lemmas.due_at_begin.SitdSampled.{sitd_is_stored, sitd_isnt_stored_for_another}
use Rattle.law_reports.proofs.due_at_begin.sitds_worked.a_sitd_is_stored_for_its_frame.Goals as goal

pub returns-clause-stored : goal.returns-clause-stored
returns-clause-stored c = sitd_is_stored

pub returns-clause-another : goal.returns-clause-another
returns-clause-another c = sitd_isnt_stored_for_another
