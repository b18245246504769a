use Rattle.law_reports.proofs.lemmas.requests.lemmas.driver_requests.Keeping.{requests_stay, requests_go_on, request_comes, request_ends}
use Rattle.law_reports.proofs.requests.driver_requests.laws.rows_keep_requests.Goals as goal

pub returns : goal.returns
returns c = record { row = requests_stay; step = requests_go_on; comes = request_comes; ends = request_ends }
