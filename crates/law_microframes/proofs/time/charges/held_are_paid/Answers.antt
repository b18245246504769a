use Rattle.law_microframes.proofs.lemmas.time.ChargeLoads.{held_are_paid}
use Rattle.law_microframes.proofs.time.charges.held_are_paid.Goals as goal

pub returns : goal.returns
returns c = held_are_paid
