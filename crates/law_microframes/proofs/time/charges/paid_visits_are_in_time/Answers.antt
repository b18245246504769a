use Rattle.law_microframes.proofs.lemmas.time.ChargeLoads.{paid_visits_are_in_time}
use Rattle.law_microframes.proofs.time.charges.paid_visits_are_in_time.Goals as goal

pub returns : goal.returns
returns c = paid_visits_are_in_time
