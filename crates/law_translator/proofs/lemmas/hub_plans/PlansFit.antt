-- What a translator's plan lays in a microframe is what the budgets count there; after the frame it lays nothing.
use Rattle.std.proofs.Common.{◌≡◌, ℕ, ◌+◌, ◌-◌, ◌*◌, ◌/◌, ◌%◌, ◌<◌, ◌≤◌, min, Bool, true, false, cond, List, [], ◌∷◌, map, Option, refl, ap, sym, subst, ◌∙◌, ⊎_elim, arith}
use Rattle.std.specs.Prelude.{nat_le, ◌&&◌, sum_by, if◌then◌else◌}
use Rattle.std.specs.List.{AllByRecursion}
use Rattle.std.proofs.lemmas.Bool.Decides.{nat_tests}
use Rattle.std.proofs.lemmas.Bool.{cases_lt}
use Rattle.std.proofs.lemmas.List.Sums.{sum_by-cons}
use Rattle.law_common.proofs.Numbers.{sum_up}
use Rattle.usb_base.specs.Limits.{frame_list_length}
use Rattle.hub_keys.specs.declared.key.Key.{Key}
use Rattle.bandwidth.specs.declared.placements.Placed.{Placed}
use Rattle.bandwidth.specs.Placements.{first_in}
use Rattle.bandwidth.specs.Sums.{is_translator, is_active, laid_in}
use Rattle.bandwidth.specs.Sums as budgets
use Rattle.law_translator.specs.Plans.{laid_at, sum_at}
use Rattle.claims_world.specs.HubPlans.{is_below, placed_below, first_of, times_of, time_in, plan_by}
use Rattle.law_translator.specs.hub_plans.Laws.{IsPlacedRight, HubPlansFit}
use Rattle.law_translator.proofs.lemmas.hub_plans.Places.{IsFoundIn, all_found}
use Rattle.law_translator.proofs.lemmas.hub_plans.Options.{Ends, right_ends}

-- what is laid in microframe u from its first on
abbrev portion : ℕ → ℕ → ℕ → ℕ
portion first time u = min time (188 * (u + 1 - first)) - min time (188 * (u - first))

portion_of : Option Placed → ℕ → ℕ
portion_of o u = portion (first_of o) (times_of o) u

of_placed : ℕ → Placed → ℕ
of_placed u y = portion (first_in y.placement.smask) (time_in y.want) u

pub portions : ℕ → List Placed → ℕ
portions u [] = 0
portions u (y ∷ ys) = of_placed u y + portions u ys

summed : (key : Placed → Key) (placed ys : List Placed) (u : ℕ) → AllByRecursion (IsFoundIn key placed) ys
    → sum_at (plan_by key placed) u (map key ys) ≡ portions u ys
unfolding portions of_placed portion_of
summed key placed [] u found = refl
summed key placed (y ∷ ys) u found =
    let here : laid_at (plan_by key placed) (key y) u ≡ of_placed u y = ap (λ (o : Option Placed). portion_of o u) found.0 in
    let rest = summed key placed ys u found.1 in
    ap (λ (n : ℕ). n + sum_at (plan_by key placed) u (map key ys)) here ∙ ap (λ (n : ℕ). of_placed u y + n) rest

-- ---- within the frame

by_first : (first time u : ℕ) → portion first time u ≤ (if nat_le first u then min 188 (time - 188 * (u - first)) else 0)
by_first first time u = ⊎_elim (λ low. early low) (λ high. late high) (cases_lt u first)
  where
    early : u < first → portion first time u ≤ (if nat_le first u then min 188 (time - 188 * (u - first)) else 0)
    early low = let none : portion first time u ≡ 0 = omega (arith, low) in omega (arith, none)

    late : first ≤ u → portion first time u ≤ (if nat_le first u then min 188 (time - 188 * (u - first)) else 0)
    late high =
        let is : nat_le first u ≡ true = grind (arith, nat_tests, high) in
        let most : portion first time u ≤ min 188 (time - 188 * (u - first)) = omega (arith, high) in
        subst (λ (b : Bool). portion first time u ≤ (if b then min 188 (time - 188 * (u - first)) else 0)) (sym is) most

counted : ℕ → ℕ → ℕ → Placed → ℕ
counted hub port u x = if is_translator x.want hub port then budgets.laid_at u x else 0

frame_of : (f u : ℕ) → u < 8 → (8 * f + u) / 8 ≡ f
frame_of f u small = omega (arith, small)

part_of : (f u : ℕ) → u < 8 → (8 * f + u) % 8 ≡ u
part_of f u small = omega (arith, small)

one_counted : (hub port f u : ℕ) (y : Placed) → u < 8 → is_translator y.want hub port ≡ true → is_active y.placement f ≡ true
    → of_placed u y ≤ counted hub port (8 * f + u) y
unfolding of_placed counted
one_counted hub port f u y small served active =
    let at : is_active y.placement ((8 * f + u) / 8) ≡ true = ap (is_active y.placement) (frame_of f u small) ∙ active in
    let is : counted hub port (8 * f + u) y ≡ laid_in y.want y.placement u =
    ap (λ (b : Bool). if b then budgets.laid_at (8 * f + u) y else 0) served
    ∙ ap (λ (b : Bool). if b then laid_in y.want y.placement ((8 * f + u) % 8) else 0) at
    ∙ ap (laid_in y.want y.placement) (part_of f u small) in
    subst (λ (n : ℕ). of_placed u y ≤ n) (sym is) (by_first (first_in y.placement.smask) (time_in y.want) u)

more : (a b c : ℕ) → a ≤ c → a ≤ b + c
more a b c h = omega (arith, h)

one_within : (hub port f u : ℕ) (y : Placed) (ys : List Placed) (a b : Bool) → u < 8
    → is_translator y.want hub port ≡ a → is_active y.placement f ≡ b
    → portions u (placed_below hub port f ys) ≤ sum_by (counted hub port (8 * f + u)) ys
    → portions u (cond (a && b) (y ∷ placed_below hub port f ys) (placed_below hub port f ys))
    ≤ counted hub port (8 * f + u) y + sum_by (counted hub port (8 * f + u)) ys
unfolding portions
one_within hub port f u y ys true true small served active rest =
    sum_up _ _ _ _ (one_counted hub port f u y small served active) rest
one_within hub port f u y ys true false small served active rest = more _ _ _ rest
one_within hub port f u y ys false b small served active rest = more _ _ _ rest

within : (hub port f u : ℕ) (placed : List Placed) → u < 8
    → portions u (placed_below hub port f placed) ≤ sum_by (counted hub port (8 * f + u)) placed
unfolding portions
within hub port f u [] small = omega arith
within hub port f u (y ∷ ys) small =
    subst (λ (n : ℕ). portions u (placed_below hub port f (y ∷ ys)) ≤ n) (sym (sum_by-cons (counted hub port (8 * f + u)) y ys))
    (one_within hub port f u y ys (is_translator y.want hub port) (is_active y.placement f) small refl refl
    (within hub port f u ys small))

-- ---- after the frame

none_after : (first time u : ℕ) → first + (time + 187) / 188 ≤ 8 → 8 ≤ u → portion first time u ≡ 0
none_after first time u end high = omega (arith, end, high)

one_after : (u : ℕ) (y : Placed) → Ends y.want y.placement → 8 ≤ u → of_placed u y ≡ 0
unfolding of_placed
one_after u y end high = none_after (first_in y.placement.smask) (time_in y.want) u end high

none_with : (u : ℕ) (y : Placed) (ys : List Placed) (b : Bool) → Ends y.want y.placement → 8 ≤ u → portions u ys ≡ 0
    → portions u (cond b (y ∷ ys) ys) ≡ 0
unfolding portions
none_with u y ys true end high rest =
    let none : of_placed u y ≡ 0 = one_after u y end high in omega (arith, none, rest)
none_with u y ys false end high rest = rest

after : (hub port f u : ℕ) (placed : List Placed) → AllByRecursion IsPlacedRight placed → 8 ≤ u
    → portions u (placed_below hub port f placed) ≡ 0
unfolding portions
after hub port f u [] right high = refl
after hub port f u (y ∷ ys) right high =
    none_with u y (placed_below hub port f ys) (is_below hub port f y) (right_ends y right.0) high
    (after hub port f u ys right.1 high)

-- ---- the plan

chain : (a b c : ℕ) → a ≡ b → b ≤ c → c ≤ 188 → a ≤ 188
chain a b c e h i = omega (arith, e, h, i)

nothing : (a b : ℕ) → a ≡ b → b ≡ 0 → a ≤ 188
nothing a b e h = omega (arith, e, h)

in_time : (f u : ℕ) → f < frame_list_length → u < 8 → 8 * f + u < 8192
in_time f u low small = omega (arith, low, small)

pub hub_plans_fit : HubPlansFit
unfolding counted
hub_plans_fit key placed hub port f address number frame fits right apart u =
    let ys : List Placed = placed_below hub port f placed in
    let sum : sum_at (plan_by key ys) u (plan_by key ys).keys ≡ portions u ys = summed key ys ys u (all_found key ys apart) in
    let at = fits.bytes hub port (8 * f + u) address number in
    ⊎_elim
    (λ (small : u < 8). chain _ _ _ sum (within hub port f u placed small) (at (in_time f u frame small)))
    (λ (high : 8 ≤ u). nothing _ _ sum (after hub port f u placed right high)) (cases_lt u 8)
