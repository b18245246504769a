use Rattle.law_reports.proofs.lemmas.requests.lemmas.below.Controlled.{moves_are_recorded}
use Rattle.law_reports.proofs.requests.below.what_a_device_acts_on_is_recorded.Goals as goal

pub returns : goal.returns
returns c = moves_are_recorded
