use Rattle.std.proofs.Common.{refl}
use Rattle.mem_bytes.specs.Bytes.{places, all_reached}
use Rattle.hc_masks.specs.Masks.{lacks}
use Rattle.law_microframes.proofs.worked_visits.splits.a_lost_complete_split_is_made_again.Goals as goal

pub returns-clause-paid : goal.returns-clause-paid
unfolding places all_reached lacks
returns-clause-paid c = refl

pub returns-clause-again : goal.returns-clause-again
unfolding places all_reached lacks
returns-clause-again c = refl
