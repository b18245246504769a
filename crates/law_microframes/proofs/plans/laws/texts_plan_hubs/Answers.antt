use Rattle.law_microframes.proofs.lemmas.plans.Keys.{texts_plan_hubs}
use Rattle.law_microframes.proofs.plans.laws.texts_plan_hubs.Goals as goal

pub returns : goal.returns
returns c = texts_plan_hubs
