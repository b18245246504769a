use Rattle.std.proofs.Common.{refl}
use Rattle.mem_bytes.specs.Bytes.{stored, places, all_reached}
use Rattle.hc_copy.specs.WriteBack.{written_back}
use Rattle.law_microframes.proofs.time.charges.worked.charges_of_queue_heads.Goals as goal

pub returns-clause-transaction : goal.returns-clause-transaction
unfolding places all_reached
returns-clause-transaction c = refl

pub returns-clause-settled : goal.returns-clause-settled
unfolding written_back stored places all_reached
returns-clause-settled c = refl

pub returns-clause-other : goal.returns-clause-other
returns-clause-other c = refl
