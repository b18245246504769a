use Rattle.law_reports.proofs.lemmas.requests.lemmas.told_requests.Claims.{report_numbers, report_tells, report_counts, report_of_requests}
use Rattle.law_reports.proofs.requests.told_requests.laws.a_report_tells_of_requests.Goals as goal

pub returns-clause-numbered : goal.returns-clause-numbered
returns-clause-numbered c = report_numbers

pub returns-clause-lines : goal.returns-clause-lines
returns-clause-lines c = report_tells

pub returns-clause-counted : goal.returns-clause-counted
returns-clause-counted c = report_counts

pub returns-clause-right : goal.returns-clause-right
returns-clause-right c = report_of_requests
