-- The worked rows of the requests that hubs hear.
use Rattle.std.proofs.Common.{◌≡◌, [], Some, refl}
use Rattle.std.proofs.lemmas.Bool.{true≢false}
use Rattle.hub_class.specs.Worked.{set_reset, clear_first, reset_translator}
use Rattle.claims_world.specs.BelowStreams.{LeavesTranslator}
use Rattle.law_reports.specs.pipes.below_hubs.DeafLaws.{IsUnopenedHub}
use Rattle.law_reports.specs.pipes.below_hubs.Samples.{sheet, hub_control}
use Rattle.law_reports.specs.pipes.hub_setups.Laws.{HasControl}
use Rattle.law_reports.specs.pipes.hub_setups.Samples.{asked, element, setup_at}
use Rattle.law_reports.specs.pipes.hub_setups.Setups.{SendsOnly, SetsUp}

pub hub_opened : IsUnopenedHub (asked set_reset) (sheet (Some 9) 4) → ⊥
hub_opened none = (none 9 refl).0 refl refl

pub buffer_cleared : LeavesTranslator (asked clear_first) (sheet (Some 9) 4) → ⊥
buffer_cleared leaves = true≢false ((leaves 9 refl).1.0 refl)

pub translator_reset : LeavesTranslator (asked reset_translator) (sheet (Some 9) 4) → ⊥
translator_reset leaves = true≢false ((leaves 9 refl).1.0 refl)

pub port_asked : HasControl (asked set_reset) 9 set_reset
port_asked = record { place = 1; number = 6; name = hub_control.name; bytes = []; here = refl; address = refl }

other_bytes : set_reset ≡ clear_first → ⊥
other_bytes is = cc

pub other_sent : SendsOnly (λ setup. setup ≡ clear_first) set_reset → ⊥
other_sent only = other_bytes (only 0 8 refl)

pub other_set_up : SetsUp (λ setup. setup ≡ clear_first) (setup_at set_reset 2) → ⊥
other_set_up sets = other_bytes (sets 128 (element 2) refl refl refl 0 8 refl)
