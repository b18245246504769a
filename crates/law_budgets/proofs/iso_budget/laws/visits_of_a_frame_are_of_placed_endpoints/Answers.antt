use Rattle.law_budgets.proofs.lemmas.iso_budget.Visited.{all_placed}
use Rattle.law_budgets.proofs.iso_budget.laws.visits_of_a_frame_are_of_placed_endpoints.Goals as goal

pub returns : goal.returns
returns c = all_placed
