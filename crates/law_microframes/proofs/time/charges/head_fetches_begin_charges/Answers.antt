use Rattle.law_microframes.proofs.lemmas.time.ChargeSums.{head_fetches_begin_charges}
use Rattle.law_microframes.proofs.time.charges.head_fetches_begin_charges.Goals as goal

pub returns : goal.returns
returns c = head_fetches_begin_charges
