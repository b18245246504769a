use Rattle.law_reports.proofs.lemmas.requests.lemmas.world_requests.Telling.{told_windows, told_once}
use Rattle.law_reports.proofs.requests.world_requests.the_told_windows_are_right.Goals as goal

pub returns : goal.returns
returns c = record { told = told_windows; once = told_once }
