-- Lists of which each element has a property.
use Rattle.std.proofs.Common.{◌≡◌, ℕ, zero, suc, Bool, true, false, List, [], ◌∷◌, ◌++◌, length, slice_get, slice_set, Some, None, map, position, cond, nat_lt, get_or, ◌<◌, arith, refl, sym, ap, subst, ◌∙◌, inl, inr}
use Rattle.std.specs.List.{AllByRecursion, find, position_or_len}
use Rattle.std.proofs.lemmas.Bool.{cases_Bool}
use Rattle.std.proofs.lemmas.Option.{same_Some, get_or_from_slice_get}
use Rattle.std.proofs.lemmas.List.Sums.{passes_at_first}

module _ {A : Type 0} (P : A → Type 0) where
  pub all_get : (xs : List A) (i : ℕ) (x : A) → AllByRecursion P xs → slice_get xs i ≡ Some x → P x
  all_get [] i x all e = absurd cc
  all_get (y ∷ ys) zero x all e = subst P (same_Some y x e) all.0
  all_get (y ∷ ys) (suc i) x all e = all_get ys i x all.1 e

  pub all_set : (xs : List A) (i : ℕ) (y : A) → AllByRecursion P xs → P y → AllByRecursion P (slice_set xs i y)
  all_set [] zero y all p = tt
  all_set [] (suc i) y all p = tt
  all_set (x ∷ xs) zero y all p = (p, all.1)
  all_set (x ∷ xs) (suc i) y all p = (all.0, all_set xs i y all.1 p)

  pub all_after : (xs ys : List A) → AllByRecursion P xs → AllByRecursion P ys → AllByRecursion P (xs ++ ys)
  all_after [] ys all more = more
  all_after (x ∷ xs) ys all more = (all.0, all_after xs ys all.1 more)

  pub all_mapped : (f : A → A) (xs : List A) → ((x : A) → P x → P (f x)) → AllByRecursion P xs → AllByRecursion P (map f xs)
  all_mapped f [] keeps all = tt
  all_mapped f (x ∷ xs) keeps all = (keeps x all.0, all_mapped f xs keeps all.1)

  -- what is found has it, and passes
  pub all_found : (t : A → Bool) (xs : List A) (x : A) → AllByRecursion P xs → find t xs ≡ Some x → P x × (t x ≡ true)
  all_found t [] x all e = absurd cc
  all_found t (y ∷ ys) x all e =
      elim (cases_Bool (t y)) [
        | inl on ↦ subst (λ (z : A). P z × (t z ≡ true)) (same_Some y x (rw on at e)) (all.0, on)
        | inr off ↦ all_found t ys x all.1 (rw off at e)
      ]

found_by : (b : Bool) (n i : ℕ) → cond b (Some n) None ≡ Some i → (b ≡ true) × (n ≡ i)
found_by true n i e = (refl, same_Some n i e)
found_by false n i e = absurd cc

less : (a n : ℕ) → nat_lt a n ≡ true → a < n
less a n h = grind arith

-- what is found passes
pub position_passes : {A : Type 0} (p : A → Bool) (xs : List A) (i : ℕ) (x : A) → position p xs ≡ Some i → slice_get xs i ≡ Some x
    → p x ≡ true
position_passes p xs i x found here =
    let f = found_by (nat_lt (position_or_len p xs) (length xs)) (position_or_len p xs) i found in
    ap p (sym (get_or_from_slice_get xs i x x here) ∙ ap (λ (n : ℕ). get_or xs n x) (sym f.1)) ∙ passes_at_first p xs x
    (less (position_or_len p xs) (length xs) f.0)
