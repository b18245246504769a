use Rattle.law_translator.proofs.Keeps.{keeps_up_with_plans}
use Rattle.law_translator.proofs.laws.keeps_up_with_plans.Goals as goal

pub returns : goal.returns
returns c = keeps_up_with_plans
