-- A search in rising numbers tells whether a number is among them.
use Rattle.std.proofs.Common.{◌≡◌, ℕ, ◌≤◌, ◌<◌, ◌==◌, false, List, get_or, Result, Ok, Err, is_ok, sym, inl, inr, ◌⊎◌, ◌≢◌, arith, eq-eqb}
use Rattle.std.specs.List.{list_any}
use Rattle.std.specs.List.Sorted.{IsBinarySearchResult, IsNonDecreasing}
use Rattle.std.specs.Ordering.{nat_cmp}
use Rattle.std.proofs.lemmas.List.Sorted.{searched}
use Rattle.std.proofs.lemmas.List.Folds.{list_any_at, list_any_none}
use Rattle.std.proofs.lemmas.List.Elements.{All-from_get_or}
use Rattle.std.proofs.lemmas.Bool.Decides.{eqb_tells}

unequal : (a b : ℕ) → a ≢ b → (a == b) ≡ false
unequal a b ne = elim (eqb_tells a b) [ inl t ↦ absurd (ne t.1) | inr f ↦ f.0 ]

split_at : (k i : ℕ) → (k < i) ⊎ (i ≤ k)
split_at k i = grind arith

-- a place below or above the split of a list has another number
apart : (a x i k : ℕ) → (k < i → a < x) → (i ≤ k → x < a) → a ≢ x
apart a x i k below above e = elim (split_at k i) [ inl h ↦ omega (arith, below h, e) | inr h ↦ omega (arith, above h, e) ]

pub search_tells : (xs : List ℕ) (x : ℕ) (r : Result ℕ ℕ) → IsBinarySearchResult (λ y. nat_cmp y x) xs r → IsNonDecreasing xs → is_ok r ≡ list_any (λ n. n == x) xs
search_tells xs x (Ok i) found rising =
    let f = searched xs x (Ok i) found (λ i j h k. rising i j 0 h k) in
    sym (list_any_at (λ n. n == x) xs i 0 f.0 (eq-eqb (get_or xs i 0) x f.1))
search_tells xs x (Err i) found rising =
    let f = searched xs x (Err i) found (λ i j h k. rising i j 0 h k) in
    sym (list_any_none (λ n. n == x) xs (All-from_get_or (λ n. (n == x) ≡ false) xs 0 (λ k h.
    unequal (get_or xs k 0) x (apart (get_or xs k 0) x i k (λ b. f.1 k b) (λ a. f.2 k a h)))))
