use Rattle.law_admission.proofs.Budgets.{events_keep_budgets}
use Rattle.law_admission.proofs.events_keep_budgets.Goals as goal

pub returns : goal.returns
returns c = events_keep_budgets
