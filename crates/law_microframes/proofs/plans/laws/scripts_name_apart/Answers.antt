use Rattle.law_microframes.proofs.lemmas.plans.Apart.{scripts_name_apart}
use Rattle.law_microframes.proofs.plans.laws.scripts_name_apart.Goals as goal

pub returns : goal.returns
returns c = scripts_name_apart
