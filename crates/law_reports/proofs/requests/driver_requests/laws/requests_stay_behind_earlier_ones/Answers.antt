use Rattle.law_reports.proofs.lemmas.requests.lemmas.driver_requests.Behind.{none_earlier, first_goes, rows_leave_behind, accepted_behind, accepted_beside, told_behind}
use Rattle.law_reports.proofs.requests.driver_requests.laws.requests_stay_behind_earlier_ones.Goals as goal

pub returns : goal.returns
returns c = record { none = none_earlier; goes = first_goes; rows = rows_leave_behind; grows = accepted_behind; others = accepted_beside; told = told_behind }
