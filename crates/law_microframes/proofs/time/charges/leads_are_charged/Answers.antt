use Rattle.law_microframes.proofs.lemmas.time.ChargeEvents.{leads_are_charged}
use Rattle.law_microframes.proofs.time.charges.leads_are_charged.Goals as goal

pub returns : goal.returns
returns g c = leads_are_charged g.W.Wire.transacts
