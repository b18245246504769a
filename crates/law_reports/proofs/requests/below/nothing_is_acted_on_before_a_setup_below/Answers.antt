use Rattle.law_reports.proofs.lemmas.requests.lemmas.below.Controlled.{unsent_acts_nothing}
use Rattle.law_reports.proofs.requests.below.nothing_is_acted_on_before_a_setup_below.Goals as goal

pub returns : goal.returns
returns c = unsent_acts_nothing
