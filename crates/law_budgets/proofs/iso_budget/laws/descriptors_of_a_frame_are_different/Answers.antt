use Rattle.law_budgets.proofs.lemmas.iso_budget.Visited.{descriptors_of_a_frame_are_different}
use Rattle.law_budgets.proofs.iso_budget.laws.descriptors_of_a_frame_are_different.Goals as goal

pub returns : goal.returns
returns c = descriptors_of_a_frame_are_different
