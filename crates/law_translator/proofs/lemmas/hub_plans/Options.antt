-- What is placed as it may be ends within its frame.
use Rattle.std.proofs.Common.{◌≡◌, ℕ, zero, suc, ◌+◌, ◌<◌, ◌≤◌, map, arith}
use Rattle.std.specs.List.{AllByRecursion, flat_map, range_with_len}
use Rattle.law_translator.proofs.lemmas.hub_plans.Common.{all_joined, one_of}
use Rattle.bandwidth.specs.declared.placements.Placed.{Placed}
use Rattle.bandwidth.specs.declared.placements.Placement.{Placement}
use Rattle.bandwidth.specs.declared.placements.Want.{Want}
use Rattle.bandwidth.specs.Placements.{IsWant, first_in, placement_row, placement_at, frame_period, in_phase, allowed}
use Rattle.bandwidth.specs.Shapes.{laid_cells}
use Rattle.bandwidth.proofs.Spans.{span_of, laid_end}
use Rattle.law_translator.specs.hub_plans.Laws.{IsPlacedRight}

abbrev pub Ends : Want → Placement → Type 0
Ends w p = first_in p.smask + laid_cells w ≤ 8

row_ends : (w : Want) (phase s : ℕ) → IsWant w → s < (placement_row w).starts → Ends w (placement_at w phase s)
row_ends w phase s want low =
    let first : first_in ((placement_row w).smask s) ≡ s = (span_of w want s low).first in
    let end : s + laid_cells w ≤ 8 = laid_end w want s low in
    omega (arith, first, end)

phase_ends : (w : Want) (phase : ℕ) → IsWant w → (a n : ℕ) → a + n ≤ (placement_row w).starts
    → AllByRecursion (Ends w) (map (placement_at w phase) (range_with_len a n))
phase_ends w phase want a zero low = tt
phase_ends w phase want a (suc n) low =
    (row_ends w phase a want (omega (arith, low)), phase_ends w phase want (a + 1) n (omega (arith, low)))

phases_end : (w : Want) → IsWant w → (a n : ℕ) → AllByRecursion (Ends w) (flat_map (in_phase w) (range_with_len a n))
phases_end w want a zero = tt
phases_end w want a (suc n) =
    all_joined (Ends w) (in_phase w a) (flat_map (in_phase w) (range_with_len (a + 1) n))
    (phase_ends w a want 0 (placement_row w).starts (omega arith)) (phases_end w want (a + 1) n)

allowed_end : (w : Want) → IsWant w → AllByRecursion (Ends w) (allowed w)
unfolding allowed
allowed_end w want = phases_end w want 0 (frame_period w.period)

pub right_ends : (y : Placed) → IsPlacedRight y → Ends y.want y.placement
right_ends y is = one_of (Ends y.want) (allowed y.want) is.place y.placement (allowed_end y.want is.want) is.at
