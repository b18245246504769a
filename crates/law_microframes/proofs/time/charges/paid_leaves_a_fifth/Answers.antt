use Rattle.law_microframes.proofs.lemmas.time.ChargeLoads.{paid_leaves_a_fifth}
use Rattle.law_microframes.proofs.time.charges.paid_leaves_a_fifth.Goals as goal

pub returns : goal.returns
returns c = paid_leaves_a_fifth
