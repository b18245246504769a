use Rattle.std.proofs.Common.{refl}
use Rattle.hc_masks.specs.Masks.{lacks}
use Rattle.law_microframes.proofs.worked_visits.splits.a_part_is_late.Goals as goal

pub returns-clause-late : goal.returns-clause-late
unfolding lacks
returns-clause-late c = refl

pub returns-clause-in_time : goal.returns-clause-in_time
unfolding lacks
returns-clause-in_time c = refl

pub returns-clause-rests : goal.returns-clause-rests
unfolding lacks
returns-clause-rests c = refl
