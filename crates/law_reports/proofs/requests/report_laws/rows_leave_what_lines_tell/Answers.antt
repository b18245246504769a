use Rattle.law_reports.proofs.lemmas.requests.Telling.{quiet_row_keeps_telling, other_harvest_keeps_telling, other_returns_keep_telling, harvest_keeps_telling}
use Rattle.law_reports.proofs.requests.report_laws.rows_leave_what_lines_tell.Goals as goal

pub returns-clause-quiet : goal.returns-clause-quiet
returns-clause-quiet c = quiet_row_keeps_telling

pub returns-clause-harvest : goal.returns-clause-harvest
returns-clause-harvest c = other_harvest_keeps_telling

pub returns-clause-returns : goal.returns-clause-returns
returns-clause-returns c = other_returns_keep_telling

pub returns-clause-own : goal.returns-clause-own
returns-clause-own c = harvest_keeps_telling
