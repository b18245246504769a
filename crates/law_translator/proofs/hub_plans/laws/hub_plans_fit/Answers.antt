use Rattle.law_translator.proofs.lemmas.hub_plans.PlansFit.{hub_plans_fit}
use Rattle.law_translator.proofs.hub_plans.laws.hub_plans_fit.Goals as goal

pub returns : goal.returns
returns c = hub_plans_fit
