-- The scanner's control endpoint, worked.
use Rattle.std.proofs.Common.{Some, ap, refl, sym}
use Rattle.std.proofs.lemmas.Bool.{false≢true}
use Rattle.std.proofs.lemmas.Option.{same_Some}
use Rattle.hub_class.specs.Worked.{set_reset}
use Rattle.claims_world.specs.BelowStreams.{heard_clear}
use Rattle.law_reports.specs.pipes.hub_setups.Samples.{asked}
use Rattle.law_reports.specs.requests.below.Hubs.{IsBehindHub}
use Rattle.law_reports.specs.requests.below.Samples.{zero, StartsSpared}

pub is_behind_its_hub : IsBehindHub (asked set_reset) (zero (Some 9) 4)
is_behind_its_hub = record { slow = refl; has = refl }

pub is_behind_no_other : IsBehindHub (asked set_reset) (zero (Some 8) 4) → ⊥
is_behind_no_other k = false≢true k.has

pub starts_spared : StartsSpared
starts_spared h here = ap heard_clear (sym (same_Some _ h here))
