-- Two keyboards fit the budgets together, and two cameras don't.
use Rattle.std.proofs.Common.{◌≡◌, ℕ, ◌≤◌, true, [], ◌∷◌, Some, slice_get, refl, arith}
use Rattle.std.specs.Prelude.{sum_by, nat_le}
use Rattle.std.proofs.lemmas.Bool.{leb-true, le-leb}
use Rattle.usb_base.specs.Limits.{microframe_budget}
use Rattle.usb_base.specs.declared.rules.Rules.{Rules}
use Rattle.bandwidth.specs.Placements.{allowed, allowed_by, placement_at}
use Rattle.drv_periodic_table.specs.Periodic.{is_periodic, want_of}
use Rattle.law_reports.specs.answers.Together.{if_placed, most_cost, IsPlaceIn, HasPlace, FitTogether}
use Rattle.law_reports.specs.answers.TogetherSamples.{asked_each_frame, three_each_microframe}

first_place : (rules : Rules) (n : ℕ)
    → slice_get (allowed_by rules (want_of n asked_each_frame)) 0 ≡ Some (placement_at (want_of n asked_each_frame) 0 0)
unfolding allowed_by allowed
first_place rules n = refl

keyboard_has_place : HasPlace asked_each_frame
keyboard_has_place rules n e = record { index = 0; placement = placement_at (want_of n asked_each_frame) 0 0; here = first_place rules n }

pub keyboards_fit : FitTogether (asked_each_frame ∷ asked_each_frame ∷ [])
keyboards_fit = record {
  loads = leb-true _ _ refl;
  frames = λ hub port _ _. leb-true _ _ refl;
  bytes = λ hub port _ _. leb-true _ _ refl;
  places = (keyboard_has_place, (keyboard_has_place, tt));
}

pub cameras_do_not_fit : FitTogether (three_each_microframe ∷ three_each_microframe ∷ []) → ⊥
cameras_do_not_fit h =
    let over : nat_le (sum_by (if_placed most_cost) (three_each_microframe ∷ three_each_microframe ∷ [])) microframe_budget ≡ true =
    le-leb _ _ h.loads in
    cc
