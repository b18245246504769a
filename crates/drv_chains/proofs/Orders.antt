-- The order of frames.
use Rattle.std.proofs.Common.{◌≡◌, ℕ, zero, suc, ◌+◌, ◌*◌, ◌/◌, ◌%◌, ◌^◌, ◌<◌, Bool, true, false, List, [], ◌∷◌, ◌++◌, map, nat_eq, ◌⊎◌, inl, inr, refl, ap, sym, ◌∙◌, subst, arith}
use Rattle.std.specs.Prelude.{◌||◌}
use Rattle.std.specs.List.{AllByRecursion, All, list_any}
use Rattle.std.proofs.lemmas.Bool.{cases_lt, cases_order, eq-eqb, eqb-true, or_cases, false≢true}
use Rattle.std.proofs.lemmas.List.Elements.{All-from_recursion}
use Rattle.drv_chains.specs.Order.{ComesFirst, frames, AreInOrder}
use Rattle.drv_chains.proofs.Bits.{same_doubled, bit_doubled, same_below, same_bit}

half_even : (f : ℕ) → 2 * f / 2 ≡ f
half_even f = omega arith

half_odd : (f : ℕ) → (2 * f + 1) / 2 ≡ f
half_odd f = omega arith

even_doubled : (f g : ℕ) → ComesFirst f g → ComesFirst (2 * f) (2 * g)
even_doubled f g c = let e : 2 * f % 2 ≡ 2 * g % 2 = omega arith in record {
  bit = c.bit + 1;
  same_below = same_doubled (2 * f) (2 * g) f g c.bit (half_even f) (half_even g) e c.same_below;
  zero_here = bit_doubled (2 * f) f c.bit 0 (half_even f) c.zero_here;
  one_there = bit_doubled (2 * g) g c.bit 1 (half_even g) c.one_there;
}

odd_doubled : (f g : ℕ) → ComesFirst f g → ComesFirst (2 * f + 1) (2 * g + 1)
odd_doubled f g c = let e : (2 * f + 1) % 2 ≡ (2 * g + 1) % 2 = omega arith in record {
  bit = c.bit + 1;
  same_below = same_doubled (2 * f + 1) (2 * g + 1) f g c.bit (half_odd f) (half_odd g) e c.same_below;
  zero_here = bit_doubled (2 * f + 1) f c.bit 0 (half_odd f) c.zero_here;
  one_there = bit_doubled (2 * g + 1) g c.bit 1 (half_odd g) c.one_there;
}

even_first : (f g : ℕ) → ComesFirst (2 * f) (2 * g + 1)
even_first f g = record {
  bit = 0;
  same_below = omega arith;
  zero_here = omega arith;
  one_there = omega arith;
}

pub mapped : {X Y : Type 0} (P : X → Type 0) (Q : Y → Type 0) (t : X → Y) → ((x : X) → P x → Q (t x)) → (xs : List X) → AllByRecursion P xs → AllByRecursion Q (map t xs)
mapped P Q t h [] a = tt
mapped P Q t h (x ∷ xs) a = (h x a.0, mapped P Q t h xs a.1)

pub both_parts : {X : Type 0} (P : X → Type 0) (xs ys : List X) → AllByRecursion P xs → AllByRecursion P ys → AllByRecursion P (xs ++ ys)
both_parts P [] ys a b = b
both_parts P (x ∷ xs) ys a b = (a.0, both_parts P xs ys a.1 b)

pub always : {X Y : Type 0} (Q : Y → Type 0) (t : X → Y) → ((x : X) → Q (t x)) → (xs : List X) → AllByRecursion Q (map t xs)
always Q t h [] = tt
always Q t h (x ∷ xs) = (h x, always Q t h xs)

ordered_map : (t : ℕ → ℕ) → ((f g : ℕ) → ComesFirst f g → ComesFirst (t f) (t g)) → (fs : List ℕ) → AreInOrder fs → AreInOrder (map t fs)
unfolding AreInOrder
ordered_map t h [] a = tt
ordered_map t h (f ∷ fs) a = (mapped (ComesFirst f) (ComesFirst (t f)) t (h f) fs a.0, ordered_map t h fs a.1)

evens_then_odds : (fs gs : List ℕ) → AreInOrder (map (λ f. 2 * f) fs) → AreInOrder (map (λ f. 2 * f + 1) gs) → AreInOrder (map (λ f. 2 * f) fs ++ map (λ f. 2 * f + 1) gs)
unfolding AreInOrder
evens_then_odds [] gs a b = b
evens_then_odds (f ∷ fs) gs a b = (
  both_parts (ComesFirst (2 * f)) (map (λ g. 2 * g) fs) (map (λ g. 2 * g + 1) gs) a.0 (always (ComesFirst (2 * f)) (λ g. 2 * g + 1) (even_first f) gs),
  evens_then_odds fs gs a.1 b,
)

pub in_order : (bits : ℕ) → AreInOrder (frames bits)
unfolding AreInOrder frames
in_order zero = (tt, tt)
in_order (suc bits) = evens_then_odds (frames bits) (frames bits) (ordered_map (λ f. 2 * f) even_doubled (frames bits) (in_order bits)) (ordered_map (λ f. 2 * f + 1) odd_doubled (frames bits) (in_order bits))

doubled_below : (bits f : ℕ) → f < 2 ^ bits → 2 * f < 2 ^ suc bits
doubled_below bits f h = omega (arith, h)

odd_below : (bits f : ℕ) → f < 2 ^ bits → 2 * f + 1 < 2 ^ suc bits
odd_below bits f h = omega (arith, h)

below_by_recursion : (bits : ℕ) → AllByRecursion (λ f. f < 2 ^ bits) (frames bits)
unfolding frames
below_by_recursion zero = (omega arith, tt)
below_by_recursion (suc bits) = both_parts (λ f. f < 2 ^ suc bits) (map (λ f. 2 * f) (frames bits)) (map (λ f. 2 * f + 1) (frames bits))
    (mapped (λ f. f < 2 ^ bits) (λ f. f < 2 ^ suc bits) (λ f. 2 * f) (doubled_below bits) (frames bits) (below_by_recursion bits))
    (mapped (λ f. f < 2 ^ bits) (λ f. f < 2 ^ suc bits) (λ f. 2 * f + 1) (odd_below bits) (frames bits) (below_by_recursion bits))

pub all_below : (bits : ℕ) → All (λ f. f < 2 ^ bits) (frames bits)
all_below bits = All-from_recursion (λ f. f < 2 ^ bits) (frames bits) (below_by_recursion bits)

right_true : (a b : Bool) → b ≡ true → (a || b) ≡ true
right_true true b h = refl
right_true false b h = h

in_mapped : (t : ℕ → ℕ) (f : ℕ) (fs : List ℕ) → list_any (λ g. nat_eq g f) fs ≡ true → list_any (λ g. nat_eq g (t f)) (map t fs) ≡ true
in_mapped t f [] h = h
in_mapped t f (g ∷ gs) h = elim (or_cases (nat_eq g f) (list_any (λ g. nat_eq g f) gs) h) [
  | inl e ↦ ap (λ b. b || list_any (λ g. nat_eq g (t f)) (map t gs)) (eq-eqb (t g) (t f) (ap t (eqb-true g f e)))
  | inr e ↦ right_true (nat_eq (t g) (t f)) (list_any (λ g. nat_eq g (t f)) (map t gs)) (in_mapped t f gs e)
]

in_left : (f : ℕ) (fs gs : List ℕ) → list_any (λ g. nat_eq g f) fs ≡ true → list_any (λ g. nat_eq g f) (fs ++ gs) ≡ true
in_left f [] gs h = absurd (false≢true h)
in_left f (x ∷ fs) gs h = elim (or_cases (nat_eq x f) (list_any (λ g. nat_eq g f) fs) h) [
  | inl e ↦ ap (λ b. b || list_any (λ g. nat_eq g f) (fs ++ gs)) e
  | inr e ↦ right_true (nat_eq x f) (list_any (λ g. nat_eq g f) (fs ++ gs)) (in_left f fs gs e)
]

in_right : (f : ℕ) (fs gs : List ℕ) → list_any (λ g. nat_eq g f) gs ≡ true → list_any (λ g. nat_eq g f) (fs ++ gs) ≡ true
in_right f [] gs h = h
in_right f (x ∷ fs) gs h = right_true (nat_eq x f) (list_any (λ g. nat_eq g f) (fs ++ gs)) (in_right f fs gs h)

half_below : (bits f : ℕ) → f < 2 ^ suc bits → f / 2 < 2 ^ bits
half_below bits f h = omega (arith, h)

even_or_odd : (f : ℕ) → (2 * (f / 2) ≡ f) ⊎ (2 * (f / 2) + 1 ≡ f)
even_or_odd f = grind arith

pub each_below : (bits f : ℕ) → f < 2 ^ bits → list_any (λ g. nat_eq g f) (frames bits) ≡ true
unfolding frames
each_below zero f h = let e : 0 ≡ f = omega (arith, h) in ap (λ b. b || false) (eq-eqb 0 f e)
each_below (suc bits) f h = elim (even_or_odd f) [
  | inl e ↦ in_left f (map (λ g. 2 * g) (frames bits)) (map (λ g. 2 * g + 1) (frames bits))
      (subst (λ x. list_any (λ g. nat_eq g x) (map (λ g. 2 * g) (frames bits)) ≡ true) e (in_mapped (λ g. 2 * g) (f / 2) (frames bits) (each_below bits (f / 2) (half_below bits f h))))
  | inr e ↦ in_right f (map (λ g. 2 * g) (frames bits)) (map (λ g. 2 * g + 1) (frames bits))
      (subst (λ x. list_any (λ g. nat_eq g x) (map (λ g. 2 * g + 1) (frames bits)) ≡ true) e (in_mapped (λ g. 2 * g + 1) (f / 2) (frames bits) (each_below bits (f / 2) (half_below bits f h))))
]

pub comes_once : (f : ℕ) → ComesFirst f f → ⊥
comes_once f c = omega (arith, c.zero_here, c.one_there)

zero_is_one : (x y : ℕ) → x ≡ y → x ≡ 0 → y ≡ 1 → ⊥
zero_is_one x y e a b = omega (arith, e, a, b)

-- both numbers differ from their neighbours below the level
low_bits : (level f g h : ℕ) → (c : ComesFirst f g) → (d : ComesFirst g h) → c.bit < level → d.bit < level → f % 2 ^ level ≡ h % 2 ^ level → ⊥
low_bits level f g h c d p q e = elim (cases_order c.bit d.bit) [
  | inl s ↦ zero_is_one (g / 2 ^ d.bit % 2) (g / 2 ^ c.bit % 2) (ap (λ x. g / 2 ^ x % 2) (sym s)) d.zero_here c.one_there
  | inr s ↦ elim s [
    | inl l ↦ zero_is_one (f / 2 ^ c.bit % 2) (g / 2 ^ c.bit % 2) (same_bit f h level c.bit p e ∙ sym (same_bit g h d.bit c.bit l d.same_below)) c.zero_here c.one_there
    | inr l ↦ zero_is_one (g / 2 ^ d.bit % 2) (h / 2 ^ d.bit % 2) (sym (same_bit f g c.bit d.bit l c.same_below) ∙ same_bit f h level d.bit q e) d.zero_here d.one_there
  ]
]

pub stand_together : (level f g h : ℕ) → ComesFirst f g → ComesFirst g h → f % 2 ^ level ≡ h % 2 ^ level → g % 2 ^ level ≡ f % 2 ^ level
stand_together level f g h c d e = elim (cases_lt c.bit level) [
  | inl p ↦ elim (cases_lt d.bit level) [
    | inl q ↦ absurd (low_bits level f g h c d p q e)
    | inr q ↦ same_below g h d.bit level q d.same_below ∙ sym e
  ]
  | inr p ↦ sym (same_below f g c.bit level p c.same_below)
]
