use Rattle.law_budgets.proofs.lemmas.visit_prices.Joined.{queue_visits_cost_their_placement}
use Rattle.law_budgets.proofs.visit_prices.queue_visits_cost_their_placement.Goals as goal

pub returns : goal.returns
returns c = queue_visits_cost_their_placement
