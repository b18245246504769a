use Rattle.law_reports.proofs.lemmas.requests.lemmas.driver_requests.Rows.{each_row_keeps_requests}
use Rattle.law_reports.proofs.lemmas.requests.lemmas.driver_requests.RowOrder.{each_row_keeps_order}
use Rattle.law_reports.proofs.requests.driver_requests.laws.each_row_keeps_requests.Goals as goal

pub returns : goal.returns
returns c = record { requests = each_row_keeps_requests; order = each_row_keeps_order }
