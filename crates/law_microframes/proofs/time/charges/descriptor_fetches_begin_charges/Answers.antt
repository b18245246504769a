use Rattle.law_microframes.proofs.lemmas.time.ChargeSums.{descriptor_fetches_begin_charges}
use Rattle.law_microframes.proofs.time.charges.descriptor_fetches_begin_charges.Goals as goal

pub returns : goal.returns
returns c = descriptor_fetches_begin_charges
