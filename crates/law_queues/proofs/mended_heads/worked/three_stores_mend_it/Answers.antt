use Rattle.std.proofs.Common.{refl}
use Rattle.law_queues.proofs.lemmas.mended_heads.Sampled.{range}
use Rattle.law_queues.proofs.mended_heads.worked.three_stores_mend_it.Goals as goal

pub returns : goal.returns
returns c = record { range = range; once = refl; twice = refl; leads = refl; idle = refl; whole = record { active = refl; halted = refl; leads = refl }; is = refl }
