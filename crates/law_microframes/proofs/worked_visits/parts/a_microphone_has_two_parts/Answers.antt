use Rattle.std.proofs.Common.{refl}
use Rattle.mem_bytes.specs.Bytes.{bytes_at, all_reached, reached, places}
use Rattle.hc_masks.specs.Masks.{lacks}
use Rattle.bandwidth.specs.Placements.{first_in}
use Rattle.law_microframes.proofs.worked_visits.parts.a_microphone_has_two_parts.Goals as goal

pub returns-clause-start : goal.returns-clause-start
unfolding lacks bytes_at all_reached reached places
returns-clause-start c = refl

pub returns-clause-first : goal.returns-clause-first
unfolding lacks bytes_at all_reached reached places
returns-clause-first c = refl

pub returns-clause-second : goal.returns-clause-second
unfolding lacks bytes_at all_reached reached places
returns-clause-second c = refl

pub returns-clause-costs : goal.returns-clause-costs
unfolding first_in
returns-clause-costs c = refl
