use Rattle.law_reports.proofs.lemmas.requests.Telling.{telling_is_told, acts_keep_telling}
use Rattle.law_reports.proofs.requests.report_laws.lines_tell_of_reported_requests.Goals as goal

pub returns : goal.returns
returns c = record { told = telling_is_told; acts = acts_keep_telling }
