use Rattle.law_reports.proofs.lemmas.requests.lemmas.told_requests.Harvests.{other_harvests_stay, other_returns_stay}
use Rattle.law_reports.proofs.lemmas.requests.lemmas.told_requests.Quiet.{quiet_rows_keep_lines}
use Rattle.law_reports.proofs.requests.told_requests.laws.other_rows_leave_what_is_told.Goals as goal

pub returns-clause-quiet : goal.returns-clause-quiet
returns-clause-quiet c = quiet_rows_keep_lines

pub returns-clause-harvests : goal.returns-clause-harvests
returns-clause-harvests c = other_harvests_stay

pub returns-clause-returns : goal.returns-clause-returns
returns-clause-returns c = other_returns_stay
