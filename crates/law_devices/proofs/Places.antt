-- Lists in which one element has changed, and the endpoint that is named.
use Rattle.std.proofs.Common.{◌≡◌, ◌≢◌, ℕ, zero, suc, ◌<◌, nat_lt, Bool, true, false, cond, List, [], ◌∷◌, length, slice_get, slice_set, get_or, Some, None, ap, refl, sym, ◌∙◌, position, arith}
use Rattle.std.proofs.lemmas.Option.{same_Some, get_or_from_slice_get}
use Rattle.std.proofs.lemmas.List.{length-set}
use Rattle.std.proofs.lemmas.List.Folds.{position_or_len-set}
use Rattle.std.proofs.lemmas.List.Sums.{passes_at_first}
use Rattle.std.specs.List.{position_or_len}

pub set_here : {A : Type 0} (xs : List A) (i : ℕ) (x y : A) → slice_get xs i ≡ Some x → slice_get (slice_set xs i y) i ≡ Some y
set_here [] zero x y e = absurd cc
set_here [] (suc i) x y e = absurd cc
set_here (z ∷ zs) zero x y e = refl
set_here (z ∷ zs) (suc i) x y e = set_here zs i x y e

pub set_beside : {A : Type 0} (xs : List A) (i j : ℕ) (y : A) → j ≢ i → slice_get (slice_set xs i y) j ≡ slice_get xs j
set_beside [] zero j y differs = refl
set_beside [] (suc i) j y differs = refl
set_beside (z ∷ zs) zero zero y differs = absurd (differs refl)
set_beside (z ∷ zs) zero (suc j) y differs = refl
set_beside (z ∷ zs) (suc i) zero y differs = refl
set_beside (z ∷ zs) (suc i) (suc j) y differs = set_beside zs i j y (λ e. differs (ap suc e))

-- the first that passes, where an element is replaced by one that passes as it does
pub position_set : {A : Type 0} (p : A → Bool) (xs : List A) (i : ℕ) (x y : A) → slice_get xs i ≡ Some x → p y ≡ p x → position p (slice_set xs i y) ≡ position p xs
position_set p xs i x y here same =
    let first : position_or_len p (slice_set xs i y) ≡ position_or_len p xs = position_or_len-set p xs i y x (same ∙ ap p (sym (get_or_from_slice_get xs i x x here))) in
    ap (λ (n : ℕ). cond (nat_lt n (length (slice_set xs i y))) (Some n) None) first ∙ ap (λ (l : ℕ). cond (nat_lt (position_or_len p xs) l) (Some (position_or_len p xs)) None) (length-set xs i y)

found_by : (b : Bool) (n i : ℕ) → cond b (Some n) None ≡ Some i → (b ≡ true) × (n ≡ i)
found_by true n i e = (refl, same_Some n i e)
found_by false n i e = absurd cc

less : (a n : ℕ) → nat_lt a n ≡ true → a < n
less a n h = grind arith

-- what is found passes
pub position_passes : {A : Type 0} (p : A → Bool) (xs : List A) (i : ℕ) (x : A) → position p xs ≡ Some i → slice_get xs i ≡ Some x → p x ≡ true
position_passes p xs i x found here =
    let f = found_by (nat_lt (position_or_len p xs) (length xs)) (position_or_len p xs) i found in
    ap p (sym (get_or_from_slice_get xs i x x here) ∙ ap (λ (n : ℕ). get_or xs n x) (sym f.1)) ∙ passes_at_first p xs x (less (position_or_len p xs) (length xs) f.0)
