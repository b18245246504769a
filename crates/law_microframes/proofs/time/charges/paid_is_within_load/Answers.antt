use Rattle.law_microframes.proofs.lemmas.time.ChargeLoads.{paid_is_within_load}
use Rattle.law_microframes.proofs.time.charges.paid_is_within_load.Goals as goal

pub returns : goal.returns
returns c = paid_is_within_load
