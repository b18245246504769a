use Rattle.law_reports.proofs.lemmas.requests.lemmas.below.Recorded.{asked_is_recorded_below, rest_is_recorded_below}
use Rattle.law_reports.proofs.lemmas.requests.lemmas.below.Recorded.{left_is_recorded_below}
use Rattle.law_reports.proofs.requests.below.what_is_acted_on_below_is_of_its_window.Goals as goal

pub returns : goal.returns
returns c = record { asked = asked_is_recorded_below; rest = rest_is_recorded_below; left = left_is_recorded_below }
