use Rattle.law_microframes.proofs.lemmas.time.ChargeEvents.{chains_are_free}
use Rattle.law_microframes.proofs.time.charges.chains_are_free.Goals as goal

pub returns : goal.returns
returns c = chains_are_free
