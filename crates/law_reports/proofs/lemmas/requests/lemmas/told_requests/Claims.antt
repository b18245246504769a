-- What the report of a moment tells of a control endpoint.
use Rattle.std.proofs.Common.{◌≡◌, ℕ, ◌≤◌, min, List, [], ◌∷◌, length, map, filter, Some, ap, refl, ◌∙◌, arith}
use Rattle.std.proofs.lemmas.List.Sums.{length-filter, count_by-le-length}
use Rattle.claims_report.specs.Requests.{Request, Window, has_acted}
use Rattle.bus_world.specs.Budgets.{moment}
use Rattle.bus_wire.specs.Bus.{fixed_of}
use Rattle.claims_world.specs.Requests.{Windows, window_at, numbers_of, windows_of, asks_at}
use Rattle.law_reports.specs.requests.told_requests.Claims.{ReportNumbers, ReportTells, ReportCounts, ReportOfRequests}
use Rattle.law_reports.proofs.lemmas.requests.lemmas.told_requests.Closing.{closing_tells_acted}
use Rattle.law_reports.proofs.lemmas.requests.lemmas.told_requests.Moments.{moments_ask}

-- each window has the request of its transfer
numbered : (asks : ℕ → Request) (v : Windows) (ns : List ℕ) → map (λ w. w.request) (map (window_at asks v) ns) ≡ map asks ns
numbered asks v [] = refl
numbered asks v (n ∷ ns) = ap (λ (rs : List Request). asks n ∷ rs) (numbered asks v ns)

pub report_numbers : ReportNumbers
report_numbers s k e x v rise over here control = numbered (asks_at s k) v (numbers_of (moment s k).world.driver e) ∙ (moments_ask s rise k).all over e x here control

pub report_tells : ReportTells
report_tells fixed w name whole ws left k = k.told

min_low : (n m : ℕ) → n ≤ m → min n m ≡ n
min_low n m low = omega (arith, low)

acted_few : (ws : List Window) → length (filter has_acted ws) ≤ length ws
acted_few ws = let same = length-filter has_acted ws in let few = count_by-le-length has_acted ws in omega (arith, same, few)

pub report_counts : ReportCounts
report_counts fixed w x ws k =
    let few = k.few in
    let low = acted_few ws in
    closing_tells_acted fixed w x k.device k.way k.seat k.apart k.is_open k.is ∙ ap Some (k.counts ∙ min_low (length (filter has_acted ws)) 4294967295 (omega (arith, few, low)))

pub report_of_requests : ReportOfRequests
report_of_requests s k e x v left rise over here control once told counts = record {
  numbered = report_numbers s k e x v rise over here control;
  once = once;
  lines_told = report_tells (fixed_of s) (moment s k).world x.desc.name _ _ left told;
  counted = report_counts (fixed_of s) (moment s k).world x.desc (windows_of (moment s k).world.driver (asks_at s k) v e) counts;
}
