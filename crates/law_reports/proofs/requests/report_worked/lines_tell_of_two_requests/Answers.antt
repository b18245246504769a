use Rattle.std.proofs.Common.{refl}
use Rattle.law_reports.proofs.lemmas.requests.ReportSampled.{none_told, first_told, both_told}
use Rattle.law_reports.proofs.requests.report_worked.lines_tell_of_two_requests.Goals as goal

pub returns : goal.returns
returns c = record { none = none_told; first = first_told; both = both_told; bytes = refl }
