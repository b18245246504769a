use Rattle.law_microframes.proofs.lemmas.time.ChargeLoads.{transactions_are_short}
use Rattle.law_microframes.proofs.time.charges.transactions_are_short.Goals as goal

pub returns : goal.returns
returns c = transactions_are_short
