-- The first bit of which a test holds, and single bits of a number.
use Rattle.std.proofs.Common.{◌≡◌, ℕ, zero, suc, ◌+◌, ◌-◌, ◌/◌, ◌%◌, ◌^◌, ◌<◌, ◌≤◌, Bool, true, false, Some, None, refl, sym, ap, ◌∙◌, arith, bit_and, inl, inr, nat_eq}
use Rattle.std.specs.Prelude.{◌==◌}
use Rattle.std.specs.Int.{w32, bit_at, trailing_zeros}
use Rattle.std.proofs.lemmas.Bool.{cases_eq, cases_lt}
use Rattle.std.proofs.lemmas.Nat.{and_mask, shr-shr, mod-pow-add, field_of, mod_below, pow_pos, pow_below}
use Rattle.std.proofs.lemmas.Nat.Bits.{ones_shr, bit_at-trailing_zeros, bit_at_above, bit_at-zero}
use Rattle.link_words.specs.Layout.{first_bit, is_set, bits}

-- no bit passes
pub first_bit_none : (test : ℕ → Bool) (k n : ℕ) → ((i : ℕ) → k ≤ i → i < k + n → test i ≡ false) → first_bit test k n ≡ None
first_bit_none test k zero h = refl
first_bit_none test k (suc n) h = rw (h k (omega arith) (omega arith)) (first_bit_none test (suc k) n (λ i l u. h i (omega arith) (omega arith)))

-- bit j passes, and none below it
pub first_bit_some : (test : ℕ → Bool) (k n j : ℕ) → k ≤ j → j < k + n → test j ≡ true → ((i : ℕ) → k ≤ i → i < j → test i ≡ false) → first_bit test k n ≡ Some j
first_bit_some test k zero j l u here below = absurd (omega arith)
first_bit_some test k (suc n) j l u here below =
    elim (cases_eq k j) [
      | inl e ↦ let at : test k ≡ true = ap test e ∙ here in rw at (ap Some e)
      | inr apart ↦ rw (below k (omega arith) (omega arith)) (first_bit_some test (suc k) n j (omega arith) (omega arith) here (λ i from to. below i (omega arith) to))
    ]

-- the test is false at k, and at what comes later
later_all : (test : ℕ → Bool) (k n : ℕ) (b : Bool) → test k ≡ b → first_bit test k (suc n) ≡ None → (first_bit test (suc k) n ≡ None → (i : ℕ) → suc k ≤ i → i < suc k + n → test i ≡ false) → (i : ℕ) → k ≤ i → i < k + suc n → test i ≡ false
later_all test k n true e h rest i l u = let some : Some k ≡ None = rw e at h in absurd (cc)
later_all test k n false e h rest i l u =
    elim (cases_eq i k) [
      | inl same ↦ ap test same ∙ e
      | inr apart ↦ rest (rw e at h) i (omega arith) (omega arith)
    ]

-- the other way: if no bit is found, none passes
pub first_bit_all : (test : ℕ → Bool) (k n : ℕ) → first_bit test k n ≡ None → (i : ℕ) → k ≤ i → i < k + n → test i ≡ false
first_bit_all test k zero h i l u = absurd (omega arith)
first_bit_all test k (suc n) h i l u = later_all test k n (test k) refl h (λ e. first_bit_all test (suc k) n e) i l u

pub not_set : (k w : ℕ) → w / 2 ^ k % 2 ≡ 0 → is_set k w ≡ false
not_set k w e = ap (λ x. x == 1) e

pub set_one : (k w : ℕ) → w / 2 ^ k % 2 ≡ 1 → is_set k w ≡ true
set_one k w e = ap (λ x. x == 1) e

-- the lowest bit of a number of some bits
low_of_many : (y n : ℕ) → 0 < n → y % 2 ^ n % 2 ≡ y % 2
low_of_many y n some =
    let parts : n ≡ n - 1 + 1 = omega arith in
    ap (λ m. y % 2 ^ m % 2) parts ∙ omega (arith, mod-pow-add y (n - 1) 1)

-- a bit of n bits of w from l up
pub bit_of_bits : (w l n i : ℕ) → i < n → w / 2 ^ l % 2 ^ n / 2 ^ i % 2 ≡ w / 2 ^ (l + i) % 2
bit_of_bits w l n i below =
    let parts : n ≡ n - i + i = omega arith in
    ap (λ m. w / 2 ^ l % 2 ^ m / 2 ^ i % 2) parts ∙ ap (λ x. x % 2) (field_of (w / 2 ^ l) (n - i) i) ∙ low_of_many (w / 2 ^ l / 2 ^ i) (n - i) (omega arith) ∙ ap (λ x. x % 2) (shr-shr w l i)

-- the bits that a shift and a mask leave
pub gap_is : (w low high : ℕ) → low ≤ high → high < 32 → bit_and (w / 2 ^ low) (4294967295 / 2 ^ (31 - (high - low))) ≡ bits high low w
gap_is w low high ordered in_word =
    let width : 32 - (31 - (high - low)) ≡ high + 1 - low = omega arith in
    ap (bit_and (w / 2 ^ low)) (ones_shr 32 (31 - (high - low)) (omega arith) ∙ ap (λ m. 2 ^ m - 1) width) ∙ and_mask (w / 2 ^ low) (high + 1 - low)

-- if the bits from low to high are 0, none of them is set
pub bits_zero : (w low high : ℕ) → low ≤ high → bits high low w ≡ 0 → (k : ℕ) → low ≤ k → k ≤ high → is_set k w ≡ false
bits_zero w low high ordered none k from to =
    let place : low + (k - low) ≡ k = omega arith in
    let here : w / 2 ^ k % 2 ≡ 0 = ap (λ m. w / 2 ^ m % 2) (sym place) ∙ sym (bit_of_bits w low (high + 1 - low) (k - low) (omega arith)) ∙ ap (λ x. x / 2 ^ (k - low) % 2) none ∙ bit_at-zero (k - low) in
    not_set k w here

-- and if none is set, they are 0
pub zero_bits : (w low n : ℕ) → ((k : ℕ) → low ≤ k → k < low + n → w / 2 ^ k % 2 ≡ 0) → w / 2 ^ low % 2 ^ n ≡ 0
zero_bits w low zero h = omega arith
zero_bits w low (suc n) h =
    let top : w / 2 ^ low / 2 ^ n % 2 ^ 1 ≡ 0 = ap (λ x. x % 2) (shr-shr w low n) ∙ h (low + n) (omega arith) (omega arith) in
    let rest : w / 2 ^ low % 2 ^ n ≡ 0 = zero_bits w low n (λ k from to. h k from (omega arith)) in
    let split = mod-pow-add (w / 2 ^ low) 1 n in
    ap (λ m. w / 2 ^ low % 2 ^ m) (suc_is n) ∙ split ∙ rw (top, rest) (omega arith)
  where
    suc_is : (n : ℕ) → suc n ≡ 1 + n
    suc_is n = omega arith

pub pow_le : (i j : ℕ) → i ≤ j → 2 ^ i ≤ 2 ^ j
pow_le i j le =
    elim (cases_lt i j) [
      | inl lt ↦ omega (arith, pow_below i j lt)
      | inr ge ↦ let same : i ≡ j = omega arith in rw same (omega arith)
    ]

pub unset_zero : (k w : ℕ) → is_set k w ≡ false → w / 2 ^ k % 2 ≡ 0
unset_zero k w e = by_value (w / 2 ^ k % 2) (omega arith) e
  where
    by_value : (x : ℕ) → x < 2 → nat_eq x 1 ≡ false → x ≡ 0
    by_value zero l e = refl
    by_value (suc zero) l e = absurd cc
    by_value (suc (suc x)) l e = absurd (omega arith)

-- the first bit that is set, by the count of zeros below it
pub first_set_is : (w low high : ℕ) → low ≤ high → high < 32 → 0 < bits high low w → first_bit (λ k. is_set k w) low (high + 1 - low) ≡ Some (low + trailing_zeros w32 (bits high low w))
first_set_is w low high ordered in_word some =
    let n = high + 1 - low in
    let gap = bits high low w in
    let small : gap < 2 ^ n = mod_below (w / 2 ^ low) (2 ^ n) (pow_pos n) in
    let wide : gap < 2 ^ 32 = omega (arith, small, pow_le n 32 (omega arith)) in
    let place = bit_at-trailing_zeros w32 gap some wide in
    let t = trailing_zeros w32 gap in
    let inside : t < n =
    elim (cases_lt t n) [
      | inl lt ↦ lt
      | inr le ↦ absurd (omega (arith, bit_at_above gap n t small le, place.1))
    ] in
    let bit : (i : ℕ) → i < n → w / 2 ^ (low + i) % 2 ≡ gap / 2 ^ i % 2 = λ i l. sym (bit_of_bits w low n i l) in
    let here : is_set (low + t) w ≡ true = set_one (low + t) w (bit t inside ∙ place.1) in
    first_bit_some (λ k. is_set k w) low n (low + t) (omega arith) (omega arith) here (λ i from to. below i from to inside bit place.2)
  where
    below : (i : ℕ) → low ≤ i → i < low + trailing_zeros w32 (bits high low w) → trailing_zeros w32 (bits high low w) < high + 1 - low → ((i : ℕ) → i < high + 1 - low → w / 2 ^ (low + i) % 2 ≡ bits high low w / 2 ^ i % 2) → ((i : ℕ) → i < trailing_zeros w32 (bits high low w) → bit_at (bits high low w) i ≡ 0) → is_set i w ≡ false
    below i from to inside bit unset =
        let place : low + (i - low) ≡ i = omega arith in
        not_set i w (ap (λ m. w / 2 ^ m % 2) (sym place) ∙ bit (i - low) (omega arith) ∙ unset (i - low) (omega arith))
