-- Choosing among placements one after another.
--     candidate P w p           the placement with its peak
--     better rules P w b p      the better of the one so far and p
--     choice rules P w b ps     the best of the one so far and of these
use Rattle.std.specs.Prelude.{ℕ, ◌-◌, min, ◌&&◌, nat_lt, if◌then◌else◌, List, [], ◌∷◌, Option, Some, None}
use Rattle.usb_base.specs.Limits.{microframe_budget}
use Rattle.bandwidth.specs.declared.placements.Want.{Want}
use Rattle.bandwidth.specs.declared.placements.Placement.{Placement}
use Rattle.bandwidth.specs.declared.placements.Placed.{Placed}
use Rattle.bandwidth.specs.declared.choice.Candidate.{Candidate}
use Rattle.usb_base.specs.declared.rules.Rules.{Rules}
use Rattle.bandwidth.specs.Placements.{is_slack}
use Rattle.bandwidth.specs.Admission.{keeps, peak}

abbrev pub candidate : List Placed → Want → Placement → Candidate
candidate placed w p = record { placement = p; peak = peak placed w p }

abbrev pub lesser : Option Candidate → Candidate → Option Candidate
lesser None new = Some new
lesser (Some old) new = if nat_lt new.peak old.peak then Some new else Some old

-- the greatest peak within the budget of microframes that is less than that of the one so far
abbrev pub limit : Option Candidate → ℕ
limit None = microframe_budget
limit (Some old) = min (old.peak - 1) microframe_budget

abbrev pub better : Rules → List Placed → Want → Option Candidate → Placement → Option Candidate
better rules placed w so_far p = if is_slack rules w p && keeps placed w p then lesser so_far (candidate placed w p) else so_far

unfoldable pub choice : Rules → List Placed → Want → Option Candidate → List Placement → Option Candidate
choice rules placed w so_far [] = so_far
choice rules placed w so_far (p ∷ ps) = choice rules placed w (better rules placed w so_far p) ps

-- the placement of a candidate
abbrev pub place_in : Option Candidate → Option Placement
place_in None = None
place_in (Some c) = Some c.placement
