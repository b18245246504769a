-- Words of bits.
use Rattle.std.proofs.Common.{◌≡◌, ◌≢◌, ℕ, zero, suc, ◌+◌, ◌*◌, ◌/◌, ◌%◌, ◌-◌, ◌^◌, ◌<◌, ◌≤◌, true, List, [], ◌∷◌, length, Option, Some, None, arith, refl, ap, sym, ◌∙◌, inl, inr, w64}
use Rattle.std.specs.Prelude.{IfSome, IfNone, nat_eq, slice_index, slice_set, bit_and, bit_or, if◌then◌else◌}
use Rattle.std.specs.Int.{bit_at, bit_not, trailing_zeros}
use Rattle.std.proofs.lemmas.Bool.{cases_Bool, cases_eq, cases_lt, cond-true, cond-false, eqb-true, eq-eqb}
use Rattle.std.proofs.lemmas.List.{get_or-set_same, get_or-set_other}
use Rattle.std.proofs.lemmas.Nat.{shr-shr, shr_le}
use Rattle.std.proofs.lemmas.Nat.Bits.{bit_at-trailing_zeros, bit_at-zero, bit_at_above, bit_at_set_same, bit_at_set_other, bit_at_clear_same, bit_at_clear_other}
use Rattle.drv_endpoints.specs.Working.{bit_of, IsFirst, AreNone, IsLowest, IsWritten}

-- ---- one word

-- a bit of a word that was shifted
bit_shifted : (n s i : ℕ) → s ≤ i → bit_at (n / 2 ^ s) (i - s) ≡ bit_at n i
bit_shifted n s i h = let e : s + (i - s) ≡ i = omega (arith, h) in ap (λ x. x % 2) (shr-shr n s (i - s)) ∙ ap (bit_at n) e

-- nothing is left of a word that was shifted: no bit is set from there on
pub none_from : (n s : ℕ) → n / 2 ^ s ≡ 0 → (k : ℕ) → s ≤ k → bit_at n k ≡ 0
none_from n s e k h = sym (bit_shifted n s k h) ∙ ap (λ x. bit_at x (k - s)) e ∙ bit_at-zero (k - s)

pub lowest_from : (n s : ℕ) → n < 2 ^ 64 → 0 < n / 2 ^ s → IsLowest n s (s + trailing_zeros w64 (n / 2 ^ s))
lowest_from n s small some =
    let t : ℕ = trailing_zeros w64 (n / 2 ^ s) in
    let found = bit_at-trailing_zeros w64 (n / 2 ^ s) some (omega (arith, shr_le n s, small)) in
    let back : (s + t) - s ≡ t = omega arith in
    let is : bit_at n (s + t) ≡ 1 = sym (bit_shifted n s (s + t) (omega arith)) ∙ ap (bit_at (n / 2 ^ s)) back ∙ found.1 in
    record {
      on = omega arith;
      within = elim (cases_lt (s + t) 64) [
        | inl h ↦ h
        | inr h ↦ absurd (omega (arith, is, bit_at_above n 64 (s + t) small h))
      ];
      set = is;
      before = λ k low high. sym (bit_shifted n s k low) ∙ found.2 (k - s) (omega (arith, low, high));
    }

-- ---- a list of words

bit_in : (words : List ℕ) (j i w : ℕ) → w ≡ slice_index words j → i < 64 → bit_of words (64 * j + i) ≡ bit_at w i
unfolding bit_of
bit_in words j i w e h =
    let a : (64 * j + i) / 64 ≡ j = omega (arith, h) in
    let b : (64 * j + i) % 64 ≡ i = omega (arith, h) in
    ap (λ x. bit_at (slice_index words x) ((64 * j + i) % 64)) a ∙ ap (bit_at (slice_index words j)) b ∙ ap (λ x. bit_at x i) (sym e)

-- the bits of word j, by their places in the word
bits_in : (words : List ℕ) (j k w : ℕ) → w ≡ slice_index words j → 64 * j ≤ k → k < 64 * j + 64 → bit_of words k ≡ bit_at w (k - 64 * j)
bits_in words j k w e low high =
    let there : 64 * j + (k - 64 * j) ≡ k = omega (arith, low) in
    ap (bit_of words) (sym there) ∙ bit_in words j (k - 64 * j) w e (omega (arith, low, high))

pub found_in : (words : List ℕ) (from j s i w : ℕ) → w ≡ slice_index words j → from ≤ 64 * j + s
    → ((k : ℕ) → from ≤ k → k < 64 * j + s → bit_of words k ≡ 0) → IsLowest w s i → IsFirst words from (64 * j + i)
found_in words from j s i w e h before low = record {
  on = omega (arith, h, low.on);
  set = bit_in words j i w e low.within ∙ low.set;
  before = λ k a b. elim (cases_lt k (64 * j + s)) [
    | inl c ↦ before k a c
    | inr c ↦ bits_in words j k w e (omega (arith, c)) (omega (arith, b, low.within)) ∙ low.before (k - 64 * j) (omega (arith, c)) (omega (arith, b, c))
  ];
}

pub none_in : (words : List ℕ) (from j s w : ℕ) → w ≡ slice_index words j
    → ((k : ℕ) → from ≤ k → k < 64 * j + s → bit_of words k ≡ 0) → ((k : ℕ) → s ≤ k → bit_at w k ≡ 0)
    → (k : ℕ) → from ≤ k → k < 64 * (j + 1) → bit_of words k ≡ 0
none_in words from j s w e before none k a b = elim (cases_lt k (64 * j + s)) [
  | inl c ↦ before k a c
  | inr c ↦ bits_in words j k w e (omega (arith, c)) (omega (arith, b)) ∙ none (k - 64 * j) (omega (arith, c))
]

index_past : (words : List ℕ) (i : ℕ) → length words ≤ i → slice_index words i ≡ 0
index_past [] i h = refl
index_past (w ∷ ws) zero h = absurd (omega arith)
index_past (w ∷ ws) (suc i) h = index_past ws i (omega (arith, h))

-- no bit is set past the last word
pub none_past : (words : List ℕ) (k : ℕ) → 64 * length words ≤ k → bit_of words k ≡ 0
unfolding bit_of
none_past words k h = ap (λ x. bit_at x (k % 64)) (index_past words (k / 64) (omega (arith, h))) ∙ bit_at-zero (k % 64)

-- ---- a bit is written

pub bit_kept : (words : List ℕ) (j y k : ℕ) → k / 64 ≢ j → bit_of (slice_set words j y) k ≡ bit_of words k
unfolding bit_of
bit_kept words j y k other = ap (λ x. bit_at x (k % 64)) (get_or-set_other words j (k / 64) y 0 other)

bit_written : (words : List ℕ) (j y k : ℕ) → j < length words → k / 64 ≡ j → bit_of (slice_set words j y) k ≡ bit_at y (k % 64)
unfolding bit_of
bit_written words j y k h e = ap (λ x. bit_at (slice_index (slice_set words j y) x) (k % 64)) e ∙ ap (λ x. bit_at x (k % 64)) (get_or-set_same words j y 0 h)

pub written_is : (words : List ℕ) (e w y b : ℕ) → e / 64 < length words → w ≡ slice_index words (e / 64) → IsWritten w y e b
    → (k : ℕ) → bit_of (slice_set words (e / 64) y) k ≡ (if nat_eq k e then b else bit_of words k)
unfolding bit_of
written_is words e w y b h is now k = elim (cases_Bool (nat_eq k e)) [
  | inl t ↦ let x : k ≡ e = eqb-true k e t in
      bit_written words (e / 64) y k h (ap (λ n. n / 64) x) ∙ ap (λ n. bit_at y (n % 64)) x ∙ now.here ∙ sym (cond-true _ _ _ t)
  | inr t ↦ elim (cases_eq (k / 64) (e / 64)) [
    | inl same ↦ let apart : k % 64 ≢ e % 64 = λ r. let x : k ≡ e = omega (arith, same, r) in let u : nat_eq k e ≡ true = eq-eqb k e x in cc in
        bit_written words (e / 64) y k h same ∙ now.elsewhere (k % 64) (omega arith) apart
        ∙ ap (λ n. bit_at n (k % 64)) (is ∙ ap (slice_index words) (sym same)) ∙ sym (cond-false _ _ _ t)
    | inr other ↦ bit_kept words (e / 64) y k other ∙ sym (cond-false _ _ _ t)
  ]
]

pub bit_set : (w e : ℕ) → IsWritten w (bit_or w (1 * 2 ^ (e % 64) % 2 ^ 64)) e 1
bit_set w e = record {
  here = bit_at_set_same w64 w (e % 64) (omega arith);
  elsewhere = λ i h other. bit_at_set_other w64 w (e % 64) (omega arith) i other;
}

pub bit_cleared : (w e : ℕ) → IsWritten w (bit_and w (bit_not w64 (1 * 2 ^ (e % 64) % 2 ^ 64))) e 0
bit_cleared w e = record {
  here = bit_at_clear_same w64 w (e % 64) (omega arith);
  elsewhere = λ i h other. bit_at_clear_other w64 w (e % 64) (omega arith) i h other;
}

-- ---- the answers of the search

pub positive : (n : ℕ) → (n ≡ 0 → ⊥) → 0 < n
positive zero h = absurd (h refl)
positive (suc n) h = omega arith

pub first_later : (words : List ℕ) (from later : ℕ) (r : Option ℕ) → from ≤ later → ((k : ℕ) → from ≤ k → k < later → bit_of words k ≡ 0)
    → IfSome r (λ e. IsFirst words later e) → IfSome r (λ e. IsFirst words from e)
first_later words from later None h zeros is = tt
first_later words from later (Some e) h zeros is = record {
  on = omega (arith, h, is.on);
  set = is.set;
  before = λ k a b. elim (cases_lt k later) [ inl c ↦ zeros k a c | inr c ↦ is.before k c b ];
}

pub none_later : (words : List ℕ) (from later : ℕ) (r : Option ℕ) → ((k : ℕ) → from ≤ k → k < later → bit_of words k ≡ 0)
    → IfNone r (AreNone words later) → IfNone r (AreNone words from)
none_later words from later None zeros none = λ k a. elim (cases_lt k later) [ inl c ↦ zeros k a c | inr c ↦ none k c ]
none_later words from later (Some e) zeros none = tt
