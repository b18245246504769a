use Rattle.std.proofs.Common.{refl}
use Rattle.mem_bytes.specs.Bytes.{places, all_reached}
use Rattle.hc_masks.specs.Masks.{lacks}
use Rattle.law_microframes.proofs.worked_visits.splits.others_are_not.Goals as goal

pub returns-clause-second : goal.returns-clause-second
unfolding places all_reached lacks
returns-clause-second c = refl

pub returns-clause-paid : goal.returns-clause-paid
unfolding places all_reached lacks
returns-clause-paid c = refl

pub returns-clause-late : goal.returns-clause-late
unfolding places all_reached lacks
returns-clause-late c = refl
