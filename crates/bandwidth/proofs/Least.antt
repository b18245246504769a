-- The first element with the least number among those that pass, by places in the list.
use Rattle.std.proofs.Common.{◌≡◌, ℕ, ◌<◌, ◌≤◌, Bool, true, false, List, [], ◌∷◌, refl, ap, sym, arith, inl, inr, ◌⊎◌}
use Rattle.std.specs.Prelude.{zero, suc, Some, None, filter, nat_lt, slice_get}
use Rattle.std.proofs.lemmas.Bool.Decides.{nat_tests}
use Rattle.bandwidth.specs.Admission.{least_by, least_from}

pub record IsFirstLeast {A : Type 0} (number : A → ℕ) (test : A → Bool) (xs : List A) (p : A) : Type 0 where
  pub place : ℕ
  pub at : slice_get xs place ≡ Some p
  pub passes : test p ≡ true
  pub least : (i : ℕ) (q : A) → slice_get xs i ≡ Some q → test q ≡ true → number p ≤ number q
  pub first : (i : ℕ) (q : A) → i < place → slice_get xs i ≡ Some q → test q ≡ true → number p < number q

-- nothing in the list is below x
record Stays {A : Type 0} (number : A → ℕ) (test : A → Bool) (x : A) (xs : List A) (p : A) : Type 0 where
  same : p ≡ x
  least : (i : ℕ) (q : A) → slice_get xs i ≡ Some q → test q ≡ true → number x ≤ number q

-- the list has one below x
record Falls {A : Type 0} (number : A → ℕ) (test : A → Bool) (x : A) (xs : List A) (p : A) : Type 0 where
  found : IsFirstLeast number test xs p
  lesser : number p < number x

on_or_off : (b : Bool) → (b ≡ true) ⊎ (b ≡ false)
on_or_off true = inl refl
on_or_off false = inr refl

some_is : {A : Type 0} (x y : A) → Some x ≡ Some y → x ≡ y
some_is x y e = cc

below_of : (a b : ℕ) → nat_lt a b ≡ true → a < b
below_of a b h = grind (arith, nat_tests)

not_below : (a b : ℕ) → nat_lt a b ≡ false → b ≤ a
not_below a b h = grind (arith, nat_tests)

-- one that doesn't pass changes nothing
skipped : {A : Type 0} (number : A → ℕ) (test : A → Bool) (y : A) (xs : List A) (p : A) → test y ≡ false → IsFirstLeast number test xs p → IsFirstLeast number test (y ∷ xs) p
skipped {A} number test y xs p off f = record {
  place = suc f.place;
  at = f.at;
  passes = f.passes;
  least = least;
  first = first;
}
  where
    least : (i : ℕ) (q : A) → slice_get (y ∷ xs) i ≡ Some q → test q ≡ true → number p ≤ number q
    least zero q e t = let s : y ≡ q = some_is y q e in cc
    least (suc i) q e t = f.least i q e t

    first : (i : ℕ) (q : A) → i < suc f.place → slice_get (y ∷ xs) i ≡ Some q → test q ≡ true → number p < number q
    first zero q h e t = let s : y ≡ q = some_is y q e in cc
    first (suc i) q h e t = f.first i q (omega arith) e t

-- one that isn't below p's number but above it
passed : {A : Type 0} (number : A → ℕ) (test : A → Bool) (y : A) (xs : List A) (p : A) → number p < number y → IsFirstLeast number test xs p → IsFirstLeast number test (y ∷ xs) p
passed {A} number test y xs p above f = record {
  place = suc f.place;
  at = f.at;
  passes = f.passes;
  least = least;
  first = first;
}
  where
    least : (i : ℕ) (q : A) → slice_get (y ∷ xs) i ≡ Some q → test q ≡ true → number p ≤ number q
    least zero q e t = let s : y ≡ q = some_is y q e in omega (arith, ap number s)
    least (suc i) q e t = f.least i q e t

    first : (i : ℕ) (q : A) → i < suc f.place → slice_get (y ∷ xs) i ≡ Some q → test q ≡ true → number p < number q
    first zero q h e t = let s : y ≡ q = some_is y q e in omega (arith, ap number s)
    first (suc i) q h e t = f.first i q (omega arith) e t

-- the first of the list stays the least
heads : {A : Type 0} (number : A → ℕ) (test : A → Bool) (y : A) (xs : List A) (p : A) → test y ≡ true → Stays number test y xs p → IsFirstLeast number test (y ∷ xs) p
heads {A} number test y xs p on s = record {
  place = 0;
  at = ap Some (sym s.same);
  passes = rw s.same on;
  least = least;
  first = λ i q h e t. absurd (omega arith);
}
  where
    least : (i : ℕ) (q : A) → slice_get (y ∷ xs) i ≡ Some q → test q ≡ true → number p ≤ number q
    least zero q e t = let k : y ≡ q = some_is y q e in omega (arith, ap number s.same, ap number k)
    least (suc i) q e t = omega (arith, ap number s.same, s.least i q e t)

stays_more : {A : Type 0} (number : A → ℕ) (test : A → Bool) (x y : A) (xs : List A) (p : A) → (test y ≡ true → number x ≤ number y) → Stays number test x xs p → Stays number test x (y ∷ xs) p
stays_more {A} number test x y xs p above s = record { same = s.same; least = least }
  where
    least : (i : ℕ) (q : A) → slice_get (y ∷ xs) i ≡ Some q → test q ≡ true → number x ≤ number q
    least zero q e t = let k : y ≡ q = some_is y q e in rw (← k) (above (rw (← k) at t))
    least (suc i) q e t = s.least i q e t

abbrev Turns : {A : Type 0} (number : A → ℕ) (test : A → Bool) (x : A) (xs : List A) (p : A) → Type 0
Turns number test x xs p = Stays number test x xs p ⊎ Falls number test x xs p

from_head : {A : Type 0} (number : A → ℕ) (test : A → Bool) (x y : A) (ys : List A) (p : A) → test y ≡ true → number y < number x → Turns number test y ys p → Falls number test x (y ∷ ys) p
from_head number test x y ys p on below (inl s) = record {
  found = heads number test y ys p on s;
  lesser = omega (arith, ap number s.same);
}
from_head number test x y ys p on below (inr f) = record {
  found = passed number test y ys p f.lesser f.found;
  lesser = omega (arith, f.lesser);
}

stays_off : {A : Type 0} (number : A → ℕ) (test : A → Bool) (x y : A) (ys : List A) (p : A) → test y ≡ false → Turns number test x ys p → Turns number test x (y ∷ ys) p
stays_off number test x y ys p off (inl s) = inl (stays_more number test x y ys p (λ on. cc) s)
stays_off number test x y ys p off (inr f) =
    inr (record { found = skipped number test y ys p off f.found; lesser = f.lesser })

stays_above : {A : Type 0} (number : A → ℕ) (test : A → Bool) (x y : A) (ys : List A) (p : A) → number x ≤ number y → Turns number test x ys p → Turns number test x (y ∷ ys) p
stays_above number test x y ys p above (inl s) = inl (stays_more number test x y ys p (λ _. above) s)
stays_above number test x y ys p above (inr f) =
    inr (record { found = passed number test y ys p (omega (arith, f.lesser)) f.found; lesser = f.lesser })

turns : {A : Type 0} (number : A → ℕ) (test : A → Bool) (x : A) (xs : List A) → Turns number test x xs (least_from number x (filter test xs))
unfolding least_from
turns number test x [] = inl (record { same = refl; least = λ i q e t. cc })
turns number test x (y ∷ ys) =
    elim (on_or_off (test y)) [
      | inr off ↦ rw off (stays_off number test x y ys _ off (turns number test x ys))
      | inl on ↦
          rw on
          (elim (on_or_off (nat_lt (number y) (number x))) [
            | inl l ↦ rw (l, least_from) (inr (from_head number test x y ys _ on (below_of _ _ l) (turns number test y ys)))
            | inr g ↦ rw (g, least_from) (stays_above number test x y ys _ (not_below _ _ g) (turns number test x ys))
          ])
    ]

in_turn : {A : Type 0} (number : A → ℕ) (test : A → Bool) (x : A) (xs : List A) (p : A) → test x ≡ true → Turns number test x xs p → IsFirstLeast number test (x ∷ xs) p
in_turn number test x xs p on (inl s) = heads number test x xs p on s
in_turn number test x xs p on (inr f) = passed number test x xs p f.lesser f.found

pub least_found : {A : Type 0} (number : A → ℕ) (test : A → Bool) (xs : List A) (p : A) → least_by number (filter test xs) ≡ Some p → IsFirstLeast number test xs p
unfolding least_by
least_found number test [] p e = cc
least_found number test (x ∷ xs) p e =
    elim (on_or_off (test x)) [
      | inr off ↦ skipped number test x xs p off (least_found number test xs p (rw off at e))
      | inl on ↦
          let same : least_from number x (filter test xs) ≡ p = some_is _ _ (rw on at e) in
          in_turn number test x xs p on (rw same at (turns number test x xs))
    ]

absent_in : {A : Type 0} (number : A → ℕ) (test : A → Bool) (x : A) (xs : List A) → test x ≡ false → ((i : ℕ) (q : A) → slice_get xs i ≡ Some q → test q ≡ true → ⊥) → (i : ℕ) (q : A) → slice_get (x ∷ xs) i ≡ Some q → test q ≡ true → ⊥
absent_in number test x xs off all zero q e on = let s : x ≡ q = some_is x q e in cc
absent_in number test x xs off all (suc i) q e on = all i q e on

pub least_absent : {A : Type 0} (number : A → ℕ) (test : A → Bool) (xs : List A) → least_by number (filter test xs) ≡ None → (i : ℕ) (q : A) → slice_get xs i ≡ Some q → test q ≡ true → ⊥
unfolding least_by
least_absent number test [] e i q at on = cc
least_absent {A} number test (x ∷ xs) e i q at on =
    elim (on_or_off (test x)) [
      | inr off ↦ absent_in number test x xs off (least_absent number test xs (rw off at e)) i q at on
      | inl here ↦ let none : Some (least_from number x (filter test xs)) ≡ None = rw here at e in cc
    ]

pub none_left : {A : Type 0} (number : A → ℕ) (test : A → Bool) (xs : List A) → ((i : ℕ) (q : A) → slice_get xs i ≡ Some q → test q ≡ true → ⊥) → least_by number (filter test xs) ≡ None
unfolding least_by
none_left number test [] all = refl
none_left number test (x ∷ xs) all =
    elim (on_or_off (test x)) [
      | inr off ↦ rw off (none_left number test xs (λ i q e t. all (suc i) q e t))
      | inl on ↦ absurd (all 0 x refl on)
    ]
