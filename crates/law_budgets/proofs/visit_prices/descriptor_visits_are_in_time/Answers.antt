use Rattle.law_budgets.proofs.lemmas.visit_prices.Joined.{descriptor_visits_are_in_time}
use Rattle.law_budgets.proofs.visit_prices.descriptor_visits_are_in_time.Goals as goal

pub returns : goal.returns
returns c = descriptor_visits_are_in_time
