-- The keyboard is given the first of its placements by a driver that was just built: it fits, and no other has a lesser peak.
use Rattle.std.proofs.Common.{◌≡◌, ℕ, zero, suc, ◌+◌, ◌/◌, ◌%◌, ◌<◌, ◌≤◌, Bool, true, false, [], slice_get, Option, Some, None, min, subst, refl, ap, sym, ◌∙◌, arith, lit≤}
use Rattle.std.specs.Prelude.{◌*◌, ◌&&◌, ◌||◌, nat_eq, if◌then◌else◌}
use Rattle.std.proofs.lemmas.Bool.Decides.{nat_tests}
use Rattle.std.proofs.lemmas.Option.{same_Some}
use Rattle.usb_base.specs.Rules.{first_rules}
use Rattle.bandwidth.specs.declared.placements.Placement.{Placement}
use Rattle.bandwidth.specs.Placements.{IsWant, allowed, allowed_by, mask, has, first_in, frame_period, run, placement_at}
use Rattle.bandwidth.specs.Sums.{Fits, load, price, cost_in, cost_at, laid_in, laid_at, time_of, time_at, frame_sum, tt_sum, is_active, is_translator}
use Rattle.bandwidth.specs.Admission.{IsBest, is_own, joined, best, peak, chosen}
use Rattle.bandwidth.proofs.Admits.{IsOption, best_is, best_none, best_option}
use Rattle.bandwidth.proofs.Budgets.{load_joined, frame_joined, bytes_joined, below_greatest, greatest_below, own_sum}
use Rattle.drv_periodic_table.specs.Periodic.{want_of}
use Rattle.law_world.specs.memory.Samples.{keyboard, keyboard_place, PlansFirst}

its_want : IsWant (want_of 0 keyboard)
its_want = record { period = refl; frames = omega arith; some_bytes = omega arith; bytes = omega arith; some_multi = omega arith; multi = omega arith; hub = refl; tt = omega arith }

first_at : slice_get (allowed_by first_rules (want_of 0 keyboard)) 0 ≡ Some keyboard_place
unfolding allowed_by allowed mask
first_at = refl

-- ---- it fits

either_within : (b : Bool) (x y n : ℕ) → x ≤ n → y ≤ n → (if b then x else y) ≤ n
either_within true x y n one two = one
either_within false x y n one two = two

its_cost : (m : ℕ) → cost_in (want_of 0 keyboard) keyboard_place m ≤ 1081911
its_cost m =
    either_within (has 1 m) (price (want_of 0 keyboard) 0) _ 1081911 (lit≤ tt) (either_within (has 28 m) (price (want_of 0 keyboard) 8) 0 1081911 (lit≤ tt) (lit≤ tt))

its_load : (u : ℕ) → load (joined [] (want_of 0 keyboard) keyboard_place) u ≤ 1081911
its_load u =
    let sum = load_joined [] (want_of 0 keyboard) keyboard_place u in
    let own : cost_at u (record { want = want_of 0 keyboard; placement = keyboard_place }) ≤ 1081911 =
    either_within (is_active keyboard_place (u / 8)) (cost_in (want_of 0 keyboard) keyboard_place (u % 8)) 0 1081911 (its_cost (u % 8)) (lit≤ tt) in
    let none : load [] u ≡ 0 = refl in
    omega (arith, sum, own, none)

its_time : (hub port f : ℕ) → frame_sum (joined [] (want_of 0 keyboard) keyboard_place) hub port f ≤ 900000000
its_time hub port f =
    let sum = frame_joined [] (want_of 0 keyboard) keyboard_place hub port f in
    let own : (if is_translator (want_of 0 keyboard) hub port then time_at f (record { want = want_of 0 keyboard; placement = keyboard_place }) else 0)
    ≤ 900000000 =
    either_within (is_translator (want_of 0 keyboard) hub port) _ 0 900000000
    (either_within (is_active keyboard_place f) (time_of (want_of 0 keyboard)) 0 900000000 (lit≤ tt) (lit≤ tt)) (lit≤ tt) in
    let none : frame_sum [] hub port f ≡ 0 = refl in
    omega (arith, sum, own, none)

least_of : (x : ℕ) → min 188 x ≤ 188
least_of x = omega arith

its_bytes : (hub port u : ℕ) → tt_sum (joined [] (want_of 0 keyboard) keyboard_place) hub port u ≤ 188
its_bytes hub port u =
    let sum = bytes_joined [] (want_of 0 keyboard) keyboard_place hub port u in
    let laid : laid_in (want_of 0 keyboard) keyboard_place (u % 8) ≤ 188 = either_within _ _ 0 188 (least_of _) (lit≤ tt) in
    let own : (if is_translator (want_of 0 keyboard) hub port then laid_at u (record { want = want_of 0 keyboard; placement = keyboard_place }) else 0) ≤ 188 =
    either_within (is_translator (want_of 0 keyboard) hub port) _ 0 188
    (either_within (is_active keyboard_place (u / 8)) (laid_in (want_of 0 keyboard) keyboard_place (u % 8)) 0 188 laid (lit≤ tt)) (lit≤ tt) in
    let none : tt_sum [] hub port u ≡ 0 = refl in
    omega (arith, sum, own, none)

it_fits : Fits (joined [] (want_of 0 keyboard) keyboard_place)
it_fits = record {
  loads = λ u h. omega (arith, its_load u);
  frames = λ hub port f h t k. its_time hub port f;
  bytes = λ hub port u h t k. its_bytes hub port u;
}

-- ---- no other has a lesser peak

its_peak : peak [] (want_of 0 keyboard) keyboard_place ≤ 1081911
unfolding peak
its_peak = greatest_below 8192 (own_sum [] (want_of 0 keyboard) keyboard_place) 1081911 (λ u h. either_within (is_own keyboard_place u) _ 0 1081911 (its_load u) (lit≤ tt))

-- two microframes after the start-split is a complete-split
split_cost : (phase s : ℕ) → s < 4 → cost_in (want_of 0 keyboard) (placement_at (want_of 0 keyboard) phase s) (s + 2) ≡ 1081911
unfolding mask first_in
split_cost phase (suc (suc (suc (suc s)))) h = absurd (omega (arith, h))
split_cost phase _ h = refl

split_there : (s : ℕ) → s < 4 → (has (run s 1) (s + 2) || has (run (s + 2) 3) (s + 2)) ≡ true
unfolding mask
split_there (suc (suc (suc (suc s)))) h = absurd (omega (arith, h))
split_there _ h = refl

eq_test : (a b : ℕ) → a ≡ b → nat_eq a b ≡ true
eq_test a b h = grind (arith, nat_tests)

both : (a b : Bool) → a ≡ true → b ≡ true → (a && b) ≡ true
both a b one two = ap (λ (c : Bool). c && b) one ∙ two

taken : (b : Bool) (x : ℕ) → b ≡ true → (if b then x else 0) ≡ x
taken b x is = ap (λ (c : Bool). if c then x else 0) is

peak_at : (phase s : ℕ) → phase < 128 → s < 4 → 1081911 ≤ peak [] (want_of 0 keyboard) (placement_at (want_of 0 keyboard) phase s)
unfolding peak
peak_at phase s h small =
    let p : Placement = placement_at (want_of 0 keyboard) phase s in
    let frame : (8 * phase + (s + 2)) / 8 ≡ phase = omega (arith, small) in
    let cell : (8 * phase + (s + 2)) % 8 ≡ s + 2 = omega (arith, small) in
    let inside : 8 * phase + (s + 2) < 8192 = omega (arith, h, small) in
    let first : is_active p phase ≡ true = eq_test (phase % 128) phase (omega (arith, h)) in
    let active : is_active p ((8 * phase + (s + 2)) / 8) ≡ true = ap (is_active p) frame ∙ first in
    let split : (has p.smask ((8 * phase + (s + 2)) % 8) || has p.cmask ((8 * phase + (s + 2)) % 8)) ≡ true =
    ap (λ (m : ℕ). has p.smask m || has p.cmask m) cell ∙ split_there s small in
    let own : is_own p (8 * phase + (s + 2)) ≡ true = both _ _ active split in
    let there : cost_in (want_of 0 keyboard) p ((8 * phase + (s + 2)) % 8) ≡ 1081911 = ap (cost_in (want_of 0 keyboard) p) cell ∙ split_cost phase s small in
    let none : load [] (8 * phase + (s + 2)) ≡ 0 = refl in
    omega (
      arith,
      below_greatest 8192 (own_sum [] (want_of 0 keyboard) p) (8 * phase + (s + 2)) inside,
      taken (is_own p (8 * phase + (s + 2))) (load (joined [] (want_of 0 keyboard) p) (8 * phase + (s + 2))) own,
      load_joined [] (want_of 0 keyboard) p (8 * phase + (s + 2)),
      taken (is_active p ((8 * phase + (s + 2)) / 8)) (cost_in (want_of 0 keyboard) p ((8 * phase + (s + 2)) % 8)) active,
      there,
      none,
    )

each_peak : (p : Placement) → IsOption (want_of 0 keyboard) p → 1081911 ≤ peak [] (want_of 0 keyboard) p
each_peak p o =
    let phase : p.phase < frame_period p.period = o.place.phase in
    let period : frame_period p.period ≡ 128 = ap (λ (q : Placement). frame_period q.period) o.at in
    let there : 1081911 ≤ peak [] (want_of 0 keyboard) (placement_at (want_of 0 keyboard) p.phase (first_in p.smask)) =
    peak_at p.phase (first_in p.smask) (omega (arith, phase, period)) o.first in
    subst (λ (q : Placement). 1081911 ≤ peak [] (want_of 0 keyboard) q) (sym o.at) there

-- ---- it is chosen

at_first : (p : Placement) (good : IsBest first_rules [] (want_of 0 keyboard) p) → IsOption (want_of 0 keyboard) p → (i : ℕ) → good.place ≡ i → p ≡ keyboard_place
at_first p good o zero is =
    sym (same_Some keyboard_place p (sym first_at ∙ subst (λ (j : ℕ). slice_get (allowed_by first_rules (want_of 0 keyboard)) j ≡ Some p) is good.at))
at_first p good o (suc i) is =
    let lesser : peak [] (want_of 0 keyboard) p < peak [] (want_of 0 keyboard) keyboard_place = good.first 0 keyboard_place (omega (arith, is)) first_at it_fits in
    let least = each_peak p o in
    let most = its_peak in
    absurd (omega (arith, lesser, least, most))

its_best : (b : Option Placement) → best first_rules [] (want_of 0 keyboard) ≡ b → b ≡ Some keyboard_place
its_best None is = absurd (best_none first_rules [] (want_of 0 keyboard) is 0 keyboard_place first_at it_fits)
its_best (Some p) is = let good = best_is first_rules [] (want_of 0 keyboard) p is in ap Some (at_first p good (best_option first_rules [] (want_of 0 keyboard) p its_want is) good.place refl)

pub plans_first : PlansFirst
plans_first = ap chosen (its_best (best first_rules [] (want_of 0 keyboard)) refl)
