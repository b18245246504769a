-- How many slots stand before a microframe, one more.
use Rattle.std.proofs.Common.{◌≡◌, ℕ, zero, suc, ◌+◌, Bool, cond, List, [], ◌∷◌, ◌++◌, count_by, refl, ap, ◌∙◌, arith}
use Rattle.std.specs.List.{range_with_len}
use Rattle.std.proofs.lemmas.List.Sums.{sum_by-append}
use Rattle.bandwidth.specs.Placements.{has, below}
use Rattle.drv_periodic_table.specs.Descriptors.{slots_before}

pub none_before : (smask : ℕ) → slots_before smask 0 ≡ 0
unfolding slots_before
none_before smask = refl

range_more : (a n : ℕ) → range_with_len a (suc n) ≡ range_with_len a n ++ (a + n) ∷ []
range_more a zero = ap (λ k. k ∷ []) (let e : a ≡ a + 0 = omega arith in e)
range_more a (suc n) = ap (λ xs. a ∷ xs) (range_more (a + 1) n ∙ ap (λ k. range_with_len (a + 1) n ++ k ∷ []) (let e : a + 1 + n ≡ a + suc n = omega arith in e))

count_more : (test : ℕ → Bool) (xs : List ℕ) (k : ℕ) → count_by test (xs ++ k ∷ []) ≡ count_by test xs + cond (test k) 1 0
count_more test xs k =
    let e : count_by test (k ∷ []) ≡ cond (test k) 1 0 = omega arith in
    sum_by-append (λ (x : ℕ). cond (test x) 1 0) xs (k ∷ []) ∙ ap (λ (n : ℕ). count_by test xs + n) e

pub one_more : (smask u : ℕ) → slots_before smask (u + 1) ≡ slots_before smask u + cond (has smask u) 1 0
unfolding slots_before
one_more smask u =
    ap (λ n. count_by (has smask) (below n)) (let e : u + 1 ≡ suc u = omega arith in e)
    ∙ ap (count_by (has smask)) (range_more 0 u ∙ ap (λ k. range_with_len 0 u ++ k ∷ []) (let e : 0 + u ≡ u = omega arith in e))
    ∙ count_more (has smask) (below u) u
