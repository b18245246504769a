-- Lists of blocks: which are among them, and that none is there twice.
use Rattle.std.proofs.Common.{◌≡◌, ◌≢◌, ℕ, zero, suc, ◌<◌, ◌⊎◌, List, [], ◌∷◌, ◌++◌, length, get_or, reverse, refl, sym, subst, ◌∙◌, ⊎_elim, inl, inr, arith}
use Rattle.std.specs.List.{AllByRecursion}
use Rattle.std.proofs.lemmas.Bool.{cases_eq}
use Rattle.std.proofs.lemmas.List.{reverse-append}
use Rattle.law_driver_ring.specs.Written.{AreAllApart}

abbrev pub IsOneOf : ℕ → List ℕ → Type 0
IsOneOf c [] = ⊥
IsOneOf c (b ∷ bs) = (c ≡ b) ⊎ IsOneOf c bs

pub one_left : (c : ℕ) (xs ys : List ℕ) → IsOneOf c xs → IsOneOf c (xs ++ ys)
one_left c [] ys in_xs = absurd in_xs
one_left c (x ∷ xs) ys (inl is) = inl is
one_left c (x ∷ xs) ys (inr is) = inr (one_left c xs ys is)

pub one_right : (c : ℕ) (xs ys : List ℕ) → IsOneOf c ys → IsOneOf c (xs ++ ys)
one_right c [] ys in_ys = in_ys
one_right c (x ∷ xs) ys in_ys = inr (one_right c xs ys in_ys)

pub one_either : (c : ℕ) (xs ys : List ℕ) → IsOneOf c (xs ++ ys) → IsOneOf c xs ⊎ IsOneOf c ys
one_either c [] ys is = inr is
one_either c (x ∷ xs) ys (inl is) = inl (inl is)
one_either c (x ∷ xs) ys (inr is) = ⊎_elim (λ (left : IsOneOf c xs). inl (inr left)) (λ (right : IsOneOf c ys). inr right) (one_either c xs ys is)

pub one_reverse : (c : ℕ) (xs : List ℕ) → IsOneOf c xs → IsOneOf c (reverse xs)
one_reverse c [] is = absurd is
one_reverse c (x ∷ xs) is =
    subst (IsOneOf c) (sym (reverse-append (x ∷ []) xs))
    (⊎_elim (λ (here : c ≡ x). one_right c (reverse xs) (x ∷ []) (inl here)) (λ (there : IsOneOf c xs). one_left c (reverse xs) (x ∷ []) (one_reverse c xs there)) is)

pub one_reversed : (c : ℕ) (xs : List ℕ) → IsOneOf c (reverse xs) → IsOneOf c xs
one_reversed c [] is = absurd is
one_reversed c (x ∷ xs) is =
    ⊎_elim (λ (there : IsOneOf c (reverse xs)). inr (one_reversed c xs there))
    (λ (last : IsOneOf c (x ∷ [])). ⊎_elim (λ (here : c ≡ x). inl here) (λ (none : ⊥). absurd none) last)
    (one_either c (reverse xs) (x ∷ []) (subst (IsOneOf c) (reverse-append (x ∷ []) xs) is))

-- ---- what holds of all holds of each

pub each_of : (P : ℕ → Type 0) (c : ℕ) (xs : List ℕ) → AllByRecursion P xs → IsOneOf c xs → P c
each_of P c [] all is = absurd is
each_of P c (x ∷ xs) all (inl is) = subst P (sym is) all.0
each_of P c (x ∷ xs) all (inr is) = each_of P c xs all.1 is

pub all_of : (P : ℕ → Type 0) (xs : List ℕ) → ((c : ℕ) → IsOneOf c xs → P c) → AllByRecursion P xs
all_of P [] each = tt
all_of P (x ∷ xs) each = (each x (inl refl), all_of P xs (λ c is. each c (inr is)))

pub at_one : (xs : List ℕ) (i : ℕ) → i < length xs → IsOneOf (get_or xs i 0) xs
at_one [] i below = absurd (omega (arith, below))
at_one (x ∷ xs) zero below = inl refl
at_one (x ∷ xs) (suc i) below = inr (at_one xs i (omega (arith, below)))

-- ---- lists whose members are apart

pub apart_left : (xs ys : List ℕ) → AreAllApart (xs ++ ys) → AreAllApart xs
apart_left [] ys apart = tt
apart_left (x ∷ xs) ys apart = (all_of (λ k. k ≢ x) xs (λ c is. each_of (λ k. k ≢ x) c (xs ++ ys) apart.0 (one_left c xs ys is)), apart_left xs ys apart.1)

pub apart_right : (xs ys : List ℕ) → AreAllApart (xs ++ ys) → AreAllApart ys
apart_right [] ys apart = apart
apart_right (x ∷ xs) ys apart = apart_right xs ys apart.1

-- what is in one half isn't in the other
pub apart_halves : (xs ys : List ℕ) (c k : ℕ) → AreAllApart (xs ++ ys) → IsOneOf c xs → IsOneOf k ys → c ≢ k
apart_halves [] ys c k apart is also same = absurd is
apart_halves (x ∷ xs) ys c k apart (inl is) also same = each_of (λ i. i ≢ x) k (xs ++ ys) apart.0 (one_right k xs ys also) (sym same ∙ is)
apart_halves (x ∷ xs) ys c k apart (inr is) also same = apart_halves xs ys c k apart.1 is also same

pub apart_by_place : (xs : List ℕ) → ((i j : ℕ) → i < j → j < length xs → get_or xs j 0 ≢ get_or xs i 0) → AreAllApart xs
apart_by_place [] distinct = tt
apart_by_place (x ∷ xs) distinct =
    (all_by_place xs (λ i below. distinct 0 (suc i) (omega arith) (omega (arith, below))), apart_by_place xs (λ i j less below. distinct (suc i) (suc j) (omega (arith, less)) (omega (arith, below))))
  where
    all_by_place : (ys : List ℕ) → ((i : ℕ) → i < length ys → get_or ys i 0 ≢ x) → AllByRecursion (λ k. k ≢ x) ys
    all_by_place [] each = tt
    all_by_place (y ∷ ys) each = (each 0 (omega arith), all_by_place ys (λ i below. each (suc i) (omega (arith, below))))

-- ---- whether one is there

pub one_or_not : (c : ℕ) (xs : List ℕ) → IsOneOf c xs ⊎ (IsOneOf c xs → ⊥)
one_or_not c [] = inr (λ none. none)
one_or_not c (x ∷ xs) =
    ⊎_elim (λ (same : c ≡ x). inl (inl same))
    (λ (differs : c ≢ x).
    ⊎_elim (λ (there : IsOneOf c xs). inl (inr there)) (λ (none : IsOneOf c xs → ⊥). inr (λ one. ⊎_elim (λ (same : c ≡ x). differs same) (λ (there : IsOneOf c xs). none there) one))
    (one_or_not c xs)) (cases_eq c x)
