use Rattle.std.proofs.Common.{refl}
use Rattle.mem_bytes.specs.Bytes.{bytes_at, all_reached, reached, places}
use Rattle.hc_iso.specs.Sitd.{after_part}
use Rattle.hc_masks.specs.Masks.{lacks}
use Rattle.law_microframes.proofs.worked_visits.parts.a_speaker_is_paid_thrice.Goals as goal

pub returns-clause-before : goal.returns-clause-before
unfolding lacks bytes_at all_reached reached places
returns-clause-before c = refl

pub returns-clause-first : goal.returns-clause-first
unfolding lacks bytes_at all_reached reached places
returns-clause-first c = refl

pub returns-clause-second : goal.returns-clause-second
unfolding lacks bytes_at all_reached reached places
returns-clause-second c = refl

pub returns-clause-third : goal.returns-clause-third
unfolding lacks bytes_at all_reached reached places
returns-clause-third c = refl
