use Rattle.law_budgets.proofs.iso_budget.worked.no_visits.Goals as goal

pub returns : goal.returns
returns c = λ n room f. record { queues = tt; interrupts = tt; descriptors = tt; different = tt }
