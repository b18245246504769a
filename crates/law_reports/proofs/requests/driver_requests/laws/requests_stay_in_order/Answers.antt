use Rattle.law_reports.proofs.lemmas.requests.lemmas.driver_requests.Ordering.{order_grows, order_stays}
use Rattle.law_reports.proofs.requests.driver_requests.laws.requests_stay_in_order.Goals as goal

pub returns : goal.returns
returns c = record { grows = order_grows; others = order_stays }
