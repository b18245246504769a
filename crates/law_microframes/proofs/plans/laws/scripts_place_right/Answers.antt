use Rattle.law_microframes.proofs.lemmas.plans.Right.{scripts_place_right}
use Rattle.law_microframes.proofs.plans.laws.scripts_place_right.Goals as goal

pub returns : goal.returns
returns c = scripts_place_right
