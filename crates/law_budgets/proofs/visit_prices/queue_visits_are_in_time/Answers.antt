use Rattle.law_budgets.proofs.lemmas.visit_prices.Joined.{queue_visits_are_in_time}
use Rattle.law_budgets.proofs.visit_prices.queue_visits_are_in_time.Goals as goal

pub returns : goal.returns
returns c = queue_visits_are_in_time
