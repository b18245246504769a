use Rattle.law_microframes.proofs.lemmas.time.ChargeEvents.{chains_cost_nothing}
use Rattle.law_microframes.proofs.time.charges.chains_cost_nothing.Goals as goal

pub returns : goal.returns
returns g c = chains_cost_nothing g.W.Wire.transacts
