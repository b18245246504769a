use Rattle.law_budgets.proofs.lemmas.visit_prices.Joined.{descriptor_visits_cost_their_placement}
use Rattle.law_budgets.proofs.visit_prices.descriptor_visits_cost_their_placement.Goals as goal

pub returns : goal.returns
returns c = descriptor_visits_cost_their_placement
