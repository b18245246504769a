use Rattle.law_microframes.proofs.lemmas.time.ChargeEvents.{enough_time_skips_nothing}
use Rattle.law_microframes.proofs.time.charges.enough_time_skips_nothing.Goals as goal

pub returns : goal.returns
returns c = enough_time_skips_nothing
