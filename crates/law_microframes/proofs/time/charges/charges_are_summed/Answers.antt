use Rattle.law_microframes.proofs.lemmas.time.ChargeSums.{charges_are_summed}
use Rattle.law_microframes.proofs.time.charges.charges_are_summed.Goals as goal

pub returns : goal.returns
returns c = charges_are_summed
