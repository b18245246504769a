use Rattle.std.proofs.Common.{refl}
use Rattle.hc_masks.specs.Masks.{lacks}
use Rattle.hc_iso.specs.Sitd.{after_part}
use Rattle.law_microframes.proofs.worked_visits.splits.three_parts_are_paid.Goals as goal

pub returns-clause-first : goal.returns-clause-first
unfolding after_part lacks
returns-clause-first c = (refl, refl)

pub returns-clause-second : goal.returns-clause-second
unfolding after_part lacks
returns-clause-second c = (refl, refl)

pub returns-clause-third : goal.returns-clause-third
unfolding after_part lacks
returns-clause-third c = (refl, refl)

pub returns-clause-over : goal.returns-clause-over
unfolding after_part lacks
returns-clause-over c = refl

pub returns-clause-missed : goal.returns-clause-missed
unfolding after_part lacks
returns-clause-missed c = refl
