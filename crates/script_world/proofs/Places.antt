-- The first element that passes a test, by its place.
use Rattle.std.proofs.Common.{◌≡◌, ℕ, ◌<◌, ◌≤◌, suc, zero, Bool, true, false, List, [], ◌∷◌, length, get_or, set, Some, None, is_some, arith, refl, ap, sym, ◌∙◌, subst, inl, inr}
use Rattle.std.specs.List.{find, position, position_or_len}
use Rattle.std.proofs.lemmas.Bool.{cases_Bool, cases_lt, lt-ltb, le-ltb, cond-true, cond-false}
use Rattle.std.proofs.lemmas.List.Folds.{find_at as found_at}
use Rattle.std.specs.Prelude.{slice_get}
use Rattle.script_world.specs.Draft.{change}

place_is : {X : Type 0} (p : X → Bool) (xs : List X) (i : ℕ) → position p xs ≡ Some i → (position_or_len p xs ≡ i) × (i < length xs)
place_is p xs i e = elim (cases_lt (position_or_len p xs) (length xs)) [
  | inl h ↦ let k : Some (position_or_len p xs) ≡ Some i = sym (cond-true _ _ _ (lt-ltb _ _ h)) ∙ e in let s : position_or_len p xs ≡ i = cc in (s, subst (λ n. n < length xs) s h)
  | inr h ↦ let k : None ≡ Some i = sym (cond-false _ _ _ (le-ltb _ _ h)) ∙ e in cc
]

no_place : {X : Type 0} (p : X → Bool) (xs : List X) → position p xs ≡ None → length xs ≤ position_or_len p xs
no_place p xs e = elim (cases_lt (position_or_len p xs) (length xs)) [
  | inl h ↦ let k : Some (position_or_len p xs) ≡ None = sym (cond-true _ _ _ (lt-ltb _ _ h)) ∙ e in cc
  | inr h ↦ h
]

get_at : {X : Type 0} (xs : List X) (i : ℕ) (x : X) → i < length xs → x ≡ get_or xs i x → slice_get xs i ≡ Some x
get_at [] i x h e = absurd (omega arith)
get_at (y ∷ ys) zero x h e = ap Some (sym e)
get_at (y ∷ ys) (suc i) x h e = get_at ys i x (omega arith) e

some_at : {X : Type 0} (xs : List X) (i : ℕ) → i < length xs → is_some (slice_get xs i) ≡ true
some_at [] i h = absurd (omega arith)
some_at (y ∷ ys) zero h = refl
some_at (y ∷ ys) (suc i) h = some_at ys i (omega arith)

get_past : {X : Type 0} (xs : List X) (i : ℕ) → length xs ≤ i → slice_get xs i ≡ None
get_past [] i h = refl
get_past (y ∷ ys) zero h = absurd (omega arith)
get_past (y ∷ ys) (suc i) h = get_past ys i (omega arith)

pub find_at : {X : Type 0} (p : X → Bool) (xs : List X) (i : ℕ) (x : X) → position p xs ≡ Some i → x ≡ get_or xs i x → find p xs ≡ Some x
find_at p xs i x e h = let k = place_is p xs i e in found_at p xs ∙ ap (slice_get xs) k.0 ∙ get_at xs i x k.1 h

pub find_nowhere : {X : Type 0} (p : X → Bool) (xs : List X) → position p xs ≡ None → find p xs ≡ None
find_nowhere p xs e = found_at p xs ∙ get_past xs (position_or_len p xs) (no_place p xs e)

here : {X : Type 0} (p : X → Bool) (z : X) (zs : List X) → p z ≡ true → position_or_len p (z ∷ zs) ≡ 0
here p z zs t = rw t refl

later : {X : Type 0} (p : X → Bool) (z : X) (zs : List X) → p z ≡ false → position_or_len p (z ∷ zs) ≡ suc (position_or_len p zs)
later p z zs t = rw t (omega arith)

changed_here : {X : Type 0} (p : X → Bool) (f : X → X) (z : X) (zs : List X) → p z ≡ true → change p f (z ∷ zs) ≡ f z ∷ zs
changed_here p f z zs t = rw t refl

changed_later : {X : Type 0} (p : X → Bool) (f : X → X) (z : X) (zs : List X) → p z ≡ false → change p f (z ∷ zs) ≡ z ∷ change p f zs
changed_later p f z zs t = rw t refl

change_place : {X : Type 0} (p : X → Bool) (f : X → X) (xs : List X) (x y : X) → position_or_len p xs < length xs → x ≡ get_or xs (position_or_len p xs) x → y ≡ f x → set xs (position_or_len p xs) y ≡ change p f xs
change_place p f [] x y h e k = absurd (omega arith)
change_place p f (z ∷ zs) x y h e k = elim (cases_Bool (p z)) [
  | inl t ↦ let n0 = here p z zs t in
      let e0 : x ≡ z = e ∙ ap (λ n. get_or (z ∷ zs) n x) n0 in
      ap (λ n. set (z ∷ zs) n y) n0 ∙ ap (λ w. w ∷ zs) (k ∙ ap f e0) ∙ sym (changed_here p f z zs t)
  | inr t ↦ let n1 = later p z zs t in
      let l : position_or_len p zs < length zs = omega (arith, n1, h) in
      ap (λ n. set (z ∷ zs) n y) n1 ∙ ap (λ r. z ∷ r) (change_place p f zs x y l (e ∙ ap (λ n. get_or (z ∷ zs) n x) n1) k) ∙ sym (changed_later p f z zs t)
]

pub change_at : {X : Type 0} (p : X → Bool) (f : X → X) (xs : List X) (i : ℕ) (x y : X) → position p xs ≡ Some i → x ≡ get_or xs i x → y ≡ f x → set xs i y ≡ change p f xs
change_at p f xs i x y e h k =
    let s = place_is p xs i e in
    let l : position_or_len p xs < length xs = omega (arith, s.0, s.1) in
    ap (λ n. set xs n y) (sym s.0) ∙ change_place p f xs x y l (h ∙ ap (λ n. get_or xs n x) (sym s.0)) k

passes_place : {X : Type 0} (p : X → Bool) (xs : List X) (x : X) → position_or_len p xs < length xs → x ≡ get_or xs (position_or_len p xs) x → p x ≡ true
passes_place p [] x h e = absurd (omega arith)
passes_place p (z ∷ zs) x h e = elim (cases_Bool (p z)) [
  | inl t ↦ ap p (e ∙ ap (λ n. get_or (z ∷ zs) n x) (here p z zs t)) ∙ t
  | inr t ↦ let n1 = later p z zs t in
      let l : position_or_len p zs < length zs = omega (arith, n1, h) in
      passes_place p zs x l (e ∙ ap (λ n. get_or (z ∷ zs) n x) n1)
]

-- the first that passes does
pub passes_at : {X : Type 0} (p : X → Bool) (xs : List X) (i : ℕ) (x : X) → position p xs ≡ Some i → x ≡ get_or xs i x → p x ≡ true
passes_at p xs i x e h =
    let s = place_is p xs i e in
    let l : position_or_len p xs < length xs = omega (arith, s.0, s.1) in
    passes_place p xs x l (h ∙ ap (λ n. get_or xs n x) (sym s.0))

nowhere : {X : Type 0} (p : X → Bool) (f : X → X) (xs : List X) → length xs ≤ position_or_len p xs → change p f xs ≡ xs
nowhere p f [] h = refl
nowhere p f (z ∷ zs) h = elim (cases_Bool (p z)) [
  | inl t ↦ absurd (omega (arith, here p z zs t, h))
  | inr t ↦ changed_later p f z zs t ∙ ap (λ r. z ∷ r) (nowhere p f zs (omega (arith, later p z zs t, h)))
]

pub change_nowhere : {X : Type 0} (p : X → Bool) (f : X → X) (xs : List X) → position p xs ≡ None → change p f xs ≡ xs
change_nowhere p f xs e = nowhere p f xs (no_place p xs e)

pub find_some : {X : Type 0} (p : X → Bool) (xs : List X) → is_some (position p xs) ≡ is_some (find p xs)
find_some p xs = elim (cases_lt (position_or_len p xs) (length xs)) [
  | inl h ↦ ap is_some (cond-true _ _ _ (lt-ltb _ _ h)) ∙ sym (ap is_some (found_at p xs) ∙ some_at xs (position_or_len p xs) h)
  | inr h ↦ ap is_some (cond-false _ _ _ (le-ltb _ _ h)) ∙ sym (ap is_some (found_at p xs ∙ get_past xs (position_or_len p xs) h))
]
