use Rattle.law_budgets.proofs.lemmas.iso_budget.Visited.{all_within, all_leave}
use Rattle.law_budgets.proofs.iso_budget.laws.visits_of_a_frame_cost_at_most_the_load.Goals as goal

pub returns : goal.returns
returns c = record { load = all_within; fifth = all_leave }
