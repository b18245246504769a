-- Masks of microframes: the sum grows by one term, and the lowest microframe is the first that passes.
use Rattle.std.proofs.Common.{◌≡◌, ℕ, ◌+◌, ◌^◌, ◌<◌, ◌≤◌, Bool, true, false, cond, List, [], ◌∷◌, ◌++◌, refl, ap, sym, ◌∙◌, arith, add-one, zero-add}
use Rattle.std.specs.Prelude.{zero, suc, sum_by, if◌then◌else◌}
use Rattle.std.specs.List.{range_with_len, position_or_len}
use Rattle.std.proofs.lemmas.List.Sums.{sum_by_push}
use Rattle.std.proofs.lemmas.List.Recursion.{is_position_or_len}
use Rattle.std.proofs.Math.Nat.{pow-succ'}
use Rattle.std.proofs.Math.Pow.{pow_mono}
use Rattle.bandwidth.specs.Placements.{below, mask, has, first_in}

range_from_more : (a n : ℕ) → range_with_len a (n + 1) ≡ range_with_len a n ++ (a + n) ∷ []
range_from_more a zero = grind arith
range_from_more a (suc n) = let e = range_from_more (a + 1) n in grind (arith, e)

pub range_more : (n : ℕ) → below (n + 1) ≡ below n ++ n ∷ []
range_more n = rw zero-add at (range_from_more 0 n)

abbrev pub bit_if : (ℕ → Bool) → ℕ → ℕ
bit_if test m = if test m then 2 ^ m else 0

-- the part of a mask below microframe n
unfoldable pub mask_part : (ℕ → Bool) → ℕ → ℕ
mask_part test n = sum_by (bit_if test) (below n)

pub mask_none : (test : ℕ → Bool) → 0 ≡ mask_part test 0
unfolding mask_part
mask_none test = refl

pub mask_whole : (test : ℕ → Bool) → mask_part test 8 ≡ mask test
unfolding mask_part mask
mask_whole test = refl

pub mask_more : (test : ℕ → Bool) (n : ℕ) → mask_part test (n + 1) ≡ mask_part test n + bit_if test n
unfolding mask_part
mask_more test n = ap (sum_by (bit_if test)) (range_more n) ∙ sum_by_push (bit_if test) (below n) n

bit_bound : (b : Bool) (p : ℕ) → cond b p 0 ≤ p
bit_bound true p = omega arith
bit_bound false p = omega arith

mask_bound_more : (test : ℕ → Bool) (n j : ℕ) → j ≡ n + 1 → mask_part test n < 2 ^ n → mask_part test j < 2 ^ j
mask_bound_more test n j e h =
    rw e (rw add-one (omega (arith, rw add-one at (mask_more test n), h, bit_bound (test n) (2 ^ n), pow-succ' 2 n)))

pub mask_bound : (test : ℕ → Bool) (n : ℕ) → mask_part test n < 2 ^ n
mask_bound test zero = rw (← mask_none test) (omega arith)
mask_bound test (suc n) = mask_bound_more test n (suc n) (omega arith) (mask_bound test n)

pub mask_fits : (test : ℕ → Bool) (m : ℕ) → m < 8 → mask_part test m + 2 ^ m < 256
mask_fits test m h = let l : m ≤ 7 = omega arith in let p : 2 ^ m ≤ 2 ^ 7 = pow_mono l in omega (arith, mask_bound test m, p)

place : {X : Type 0} → (X → Bool) → List X → ℕ
place p [] = 0
place p (x ∷ xs) = cond (p x) 0 (1 + place p xs)

place_skips : {X : Type 0} (p : X → Bool) (x : X) (xs : List X) → p x ≡ false → place p (x ∷ xs) ≡ 1 + place p xs
unfolding place
place_skips p x xs h = rw h refl

place_stops : {X : Type 0} (p : X → Bool) (x : X) (xs : List X) → p x ≡ true → place p (x ∷ xs) ≡ 0
unfolding place
place_stops p x xs h = rw h refl

place_is : (p : ℕ → Bool) (a n i : ℕ) → i < n → ((k : ℕ) → k < i → p (a + k) ≡ false) → p (a + i) ≡ true → place p (range_with_len a n) ≡ i
place_is p a zero i h none here = absurd (omega arith)
place_is p a (suc n) zero h none here =
    let e : a + 0 ≡ a = omega arith in place_stops p a (range_with_len (a + 1) n) (rw e at here)
place_is p a (suc n) (suc i) h none here =
    let e : a + 0 ≡ a = omega arith in
    let first : p (a + 0) ≡ false = none 0 (omega arith) in
    let later : a + suc i ≡ a + 1 + i = omega arith in
    let rest : place p (range_with_len (a + 1) n) ≡ i =
    place_is p (a + 1) n i (omega arith)
    (λ k hk. let s : a + suc k ≡ a + 1 + k = omega arith in
    let f : p (a + suc k) ≡ false = none (suc k) (omega arith) in rw s at f)
    (rw later at here) in
    place_skips p a (range_with_len (a + 1) n) (rw e at first) ∙ rw rest (omega arith)

place_none : (p : ℕ → Bool) (a n : ℕ) → ((k : ℕ) → k < n → p (a + k) ≡ false) → place p (range_with_len a n) ≡ n
unfolding place
place_none p a zero none = refl
place_none p a (suc n) none =
    let e : a + 0 ≡ a = omega arith in
    let first : p (a + 0) ≡ false = none 0 (omega arith) in
    let rest : place p (range_with_len (a + 1) n) ≡ n =
    place_none p (a + 1) n
    (λ k hk. let s : a + suc k ≡ a + 1 + k = omega arith in
    let f : p (a + suc k) ≡ false = none (suc k) (omega arith) in rw s at f) in
    place_skips p a (range_with_len (a + 1) n) (rw e at first) ∙ rw rest (omega arith)

place_same : (p : ℕ → Bool) (xs : List ℕ) → place p xs ≡ position_or_len p xs
unfolding place
place_same p xs = is_position_or_len (place p) p refl (λ x xs. refl) xs

pub first_is : (m i : ℕ) → i < 8 → ((k : ℕ) → k < i → has m k ≡ false) → has m i ≡ true → i ≡ first_in m
unfolding first_in
first_is m i h none here =
    sym (place_is (has m) 0 8 i h (λ k hk. rw zero-add (none k hk)) (rw zero-add here)) ∙ place_same (has m) (below 8)

pub first_none : (m : ℕ) → ((k : ℕ) → k < 8 → has m k ≡ false) → 8 ≡ first_in m
unfolding first_in
first_none m none =
    sym (place_none (has m) 0 8 (λ k hk. rw zero-add (none k hk))) ∙ place_same (has m) (below 8)
