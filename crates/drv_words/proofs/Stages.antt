-- The qTDs of a transfer, one by one.
use Rattle.std.proofs.Common.{◌≡◌, ℕ, zero, suc, ◌+◌, ◌-◌, ◌*◌, ◌<◌, min, max, List, [], ◌∷◌, length, map, slice_get, Some, arith, ap, ◌∙◌, refl}
use Rattle.std.specs.List.{range_with_len}
use Rattle.drv_table.specs.declared.content.Stage.{Stage}
use Rattle.drv_table.specs.Words.{cut, pieces}

length_map : {X : Type 0} (f : ℕ → X) (xs : List ℕ) → length (map f xs) ≡ length xs
length_map f [] = refl
length_map f (x ∷ xs) = ap suc (length_map f xs)

length_range : (a n : ℕ) → length (range_with_len a n) ≡ n
length_range a zero = refl
length_range a (suc n) = ap suc (length_range (a + 1) n)

pub length_stages : (g : ℕ → Stage) (len by : ℕ) → length (map g (cut len by)) ≡ max 1 (pieces len by)
length_stages g len by =
    length_map g (cut len by) ∙ length_map (λ k. min by (len - k * by)) (range_with_len 0 (max 1 (pieces len by))) ∙ length_range 0 (max 1 (pieces len by))

get_map : {X : Type 0} (f : ℕ → X) (xs : List ℕ) (k v : ℕ) → slice_get xs k ≡ Some v → slice_get (map f xs) k ≡ Some (f v)
get_map f [] k v there = absurd (cc)
get_map f (x ∷ xs) zero v there = let e : x ≡ v = cc in ap (λ y. Some (f y)) e
get_map f (x ∷ xs) (suc k) v there = get_map f xs k v there

get_range : (a n k : ℕ) → k < n → slice_get (range_with_len a n) k ≡ Some (a + k)
get_range a zero k below = absurd (omega arith)
get_range a (suc n) zero below = ap Some (let e : a ≡ a + 0 = omega arith in e)
get_range a (suc n) (suc k) below = get_range (a + 1) n k (omega arith) ∙ ap Some (let e : a + 1 + k ≡ a + suc k = omega arith in e)

pub get_stage : (g : ℕ → Stage) (len by k : ℕ) → k < length (map g (cut len by)) → slice_get (map g (cut len by)) k ≡ Some (g (min by (len - k * by)))
get_stage g len by k below =
    get_map g (cut len by) k (min by (len - k * by))
    (get_map (λ i. min by (len - i * by)) (range_with_len 0 (max 1 (pieces len by))) k k
    (get_range 0 (max 1 (pieces len by)) k (omega (arith, below, length_stages g len by)) ∙ ap Some (let e : 0 + k ≡ k = omega arith in e)))
