-- A reading for each removal, one after the other.
use Rattle.std.proofs.Common.{◌≡◌, ℕ, zero, suc, ◌+◌, ◌<◌, List, [], ◌∷◌, ◌++◌, length, map, take, drop, set, slice_get, Some, arith, ap, sym, ◌∙◌, refl}
use Rattle.drv_periodic_table.specs.declared.content.Removal.{Removal}

pub more : (f : Removal → Removal) (xs : List Removal) (k : ℕ) (r : Removal) → slice_get (map f (take k xs) ++ drop k xs) k ≡ Some r → set (map f (take k xs) ++ drop k xs) k (f r) ≡ map f (take (k + 1) xs) ++ drop (k + 1) xs
more f [] zero r there = absurd (cc)
more f [] (suc k) r there = absurd (cc)
more f (x ∷ xs) zero r there = let e : x ≡ r = cc in ap (λ (y : Removal). f y ∷ xs) (sym e)
more f (x ∷ xs) (suc k) r there =
    ap (λ ys. f x ∷ ys) (more f xs k r there)
    ∙ ap (λ j. map f (take j (x ∷ xs)) ++ drop j (x ∷ xs)) (let e : suc (k + 1) ≡ suc k + 1 = omega arith in e)

there : (f : Removal → Removal) (xs : List Removal) (k : ℕ) → k < length xs → (r : Removal) × (slice_get (map f (take k xs) ++ drop k xs) k ≡ Some r)
there f [] k below = absurd (omega arith)
there f (x ∷ xs) zero below = (x, refl)
there f (x ∷ xs) (suc k) below = there f xs k (omega arith)

pub step : (f : Removal → Removal) (xs ys zs : List Removal) (k : ℕ) → k < length xs → ys ≡ map f (take k xs) ++ drop k xs → ((r : Removal) → slice_get ys k ≡ Some r → zs ≡ set ys k (f r)) → zs ≡ map f (take (k + 1) xs) ++ drop (k + 1) xs
step f xs ys zs k below sofar made =
    let t = there f xs k below in
    let at : slice_get ys k ≡ Some t.0 = ap (λ (l : List Removal). slice_get l k) sofar ∙ t.1 in
    made t.0 at ∙ ap (λ (l : List Removal). set l k (f t.0)) sofar ∙ more f xs k t.0 t.1
