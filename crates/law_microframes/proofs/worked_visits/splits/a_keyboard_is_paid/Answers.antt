use Rattle.std.proofs.Common.{refl}
use Rattle.mem_bytes.specs.Bytes.{places, all_reached}
use Rattle.hc_masks.specs.Masks.{lacks}
use Rattle.law_microframes.proofs.worked_visits.splits.a_keyboard_is_paid.Goals as goal

pub returns-clause-start : goal.returns-clause-start
unfolding places all_reached lacks
returns-clause-start c = refl

pub returns-clause-complete : goal.returns-clause-complete
unfolding places all_reached lacks
returns-clause-complete c = refl

pub returns-clause-once : goal.returns-clause-once
unfolding places all_reached lacks
returns-clause-once c = refl

pub returns-clause-in_time : goal.returns-clause-in_time
unfolding places all_reached lacks
returns-clause-in_time c = refl
