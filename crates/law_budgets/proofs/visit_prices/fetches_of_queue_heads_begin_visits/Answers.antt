use Rattle.law_budgets.proofs.lemmas.visit_prices.Fetched.{fetches_of_queue_heads_begin_visits}
use Rattle.law_budgets.proofs.visit_prices.fetches_of_queue_heads_begin_visits.Goals as goal

pub returns : goal.returns
returns c = fetches_of_queue_heads_begin_visits
