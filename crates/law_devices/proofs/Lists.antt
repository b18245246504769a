-- Lists: what a test finds first, and one element that is changed.
use Rattle.std.proofs.Common.{◌≡◌, ℕ, Bool, true, false, List, [], ◌∷◌, ◌++◌, map, Option, Some, None, refl, sym, ap, subst, ◌∙◌, inl, inr}
use Rattle.std.specs.Prelude.{◌||◌, find, filter_map, slice_get, position}
use Rattle.std.specs.List.{AllByRecursion, list_any, position_or_len}
use Rattle.std.specs.Option.{option_map, option_and_then}
use Rattle.std.proofs.lemmas.Bool.{cond_both, cases_Bool, cond-true, cond-false, lt-ltb, or_cases}
use Rattle.std.proofs.lemmas.List.Folds.{find_at}
use Rattle.std.proofs.lemmas.Option.{slice_get_within, same_Some}
use Rattle.law_common.proofs.Booleans.{right_or, left_or}
use Rattle.script_world.specs.Draft.{change}

abbrev pub Holds : {X : Type 0} → (X → Type 0) → Option X → Type 0
Holds P None = Unit {0}
Holds P (Some x) = P x

-- ---- of all

pub all_find : {X : Type 0} (P : X → Type 0) (p : X → Bool) (xs : List X) → AllByRecursion P xs → Holds P (find p xs)
all_find P p [] h = tt
all_find P p (x ∷ xs) h = cond_both (p x) (Some x) (find p xs) (Holds P) (λ _. h.0) (λ _. all_find P p xs h.1)

pub filter_skips : {X Y : Type 0} (f : X → Option Y) (x : X) (xs : List X) → f x ≡ None → filter_map f (x ∷ xs) ≡ filter_map f xs
filter_skips f x xs e = rw e refl

pub filter_takes : {X Y : Type 0} (f : X → Option Y) (x : X) (xs : List X) (y : Y) → f x ≡ Some y → filter_map f (x ∷ xs) ≡ y ∷ filter_map f xs
filter_takes f x xs y e = rw e refl

kept_by : {X Y : Type 0} (P : Y → Type 0) (f : X → Option Y) (x : X) (xs : List X) (o : Option Y) → f x ≡ o → Holds P o → AllByRecursion P (filter_map f xs) → AllByRecursion P (filter_map f (x ∷ xs))
kept_by P f x xs None e h k = subst (AllByRecursion P) (sym (filter_skips f x xs e)) k
kept_by P f x xs (Some y) e h k = subst (AllByRecursion P) (sym (filter_takes f x xs y e)) (h, k)

pub all_filter_map : {X Y : Type 0} (P : Y → Type 0) (f : X → Option Y) (xs : List X) → ((x : X) → Holds P (f x)) → AllByRecursion P (filter_map f xs)
all_filter_map P f [] g = tt
all_filter_map P f (x ∷ xs) g = kept_by P f x xs (f x) refl (g x) (all_filter_map P f xs g)

-- ---- of one

pub any_more : {X : Type 0} (p : X → Bool) (xs ys : List X) → list_any p xs ≡ true → list_any p (xs ++ ys) ≡ true
any_more p [] ys e = cc
any_more p (x ∷ xs) ys e =
    elim (or_cases (p x) (list_any p xs) e) [
      | inl t ↦ left_or (p x) (list_any p (xs ++ ys)) t
      | inr t ↦ right_or (p x) (list_any p (xs ++ ys)) (any_more p xs ys t)
    ]

pub any_later : {X : Type 0} (p : X → Bool) (xs ys : List X) → list_any p ys ≡ true → list_any p (xs ++ ys) ≡ true
any_later p [] ys e = e
any_later p (x ∷ xs) ys e = right_or (p x) (list_any p (xs ++ ys)) (any_later p xs ys e)

-- ---- what is found

pub record HasFound {X : Type 0} (p : X → Bool) (xs : List X) : Type 0 where
  pub first : X
  pub is : find p xs ≡ Some first

pub any_found : {X : Type 0} (p : X → Bool) (xs : List X) → list_any p xs ≡ true → HasFound p xs
any_found p [] e = cc
any_found p (x ∷ xs) e =
    elim (cases_Bool (p x)) [
      | inl t ↦ record { first = x; is = cond-true _ _ _ t }
      | inr f ↦ let k = any_found p xs (sym (ap (λ b. b || list_any p xs) f) ∙ e) in record { first = k.first; is = cond-false _ _ _ f ∙ k.is }
    ]

pub found_passes : {X : Type 0} (p : X → Bool) (xs : List X) (x : X) → find p xs ≡ Some x → p x ≡ true
found_passes p [] x e = cc
found_passes p (y ∷ ys) x e =
    elim (cases_Bool (p y)) [
      | inl t ↦ subst (λ z. p z ≡ true) (same_Some y x (sym (cond-true _ _ _ t) ∙ e)) t
      | inr f ↦ found_passes p ys x (sym (cond-false _ _ _ f) ∙ e)
    ]

pub record IsFirst {X : Type 0} (p : X → Bool) (xs : List X) (x : X) : Type 0 where
  pub place : ℕ
  pub at : position p xs ≡ Some place
  pub here : slice_get xs place ≡ Some x

pub found_first : {X : Type 0} (p : X → Bool) (xs : List X) (x : X) → find p xs ≡ Some x → IsFirst p xs x
found_first p xs x e =
    let here : slice_get xs (position_or_len p xs) ≡ Some x = sym (find_at p xs) ∙ e in
    record { place = position_or_len p xs; at = cond-true _ _ _ (lt-ltb _ _ (slice_get_within xs (position_or_len p xs) x here)); here = here }

pub none_each : {X : Type 0} (p : X → Bool) (xs : List X) → find p xs ≡ None → AllByRecursion (λ x. p x ≡ false) xs
none_each p [] e = tt
none_each p (y ∷ ys) e =
    elim (cases_Bool (p y)) [
      | inl t ↦ let k : Some y ≡ None = sym (cond-true _ _ _ t) ∙ e in cc
      | inr f ↦ (f, none_each p ys (sym (cond-false _ _ _ f) ∙ e))
    ]

pub find_append : {X : Type 0} (p : X → Bool) (xs ys : List X) (x : X) → find p xs ≡ Some x → find p (xs ++ ys) ≡ Some x
find_append p [] ys x e = cc
find_append p (y ∷ zs) ys x e =
    elim (cases_Bool (p y)) [
      | inl t ↦ cond-true _ _ _ t ∙ sym (cond-true _ _ _ t) ∙ e
      | inr f ↦ cond-false _ _ _ f ∙ find_append p zs ys x (sym (cond-false _ _ _ f) ∙ e)
    ]

-- where none of the first passes
pub find_later : {X : Type 0} (p : X → Bool) (xs ys : List X) → AllByRecursion (λ x. p x ≡ false) xs → find p (xs ++ ys) ≡ find p ys
find_later p [] ys h = refl
find_later p (x ∷ xs) ys h = cond-false _ _ _ h.0 ∙ find_later p xs ys h.1

pub find_same : {X : Type 0} (p q : X → Bool) (xs : List X) → AllByRecursion (λ x. p x ≡ q x) xs → find p xs ≡ find q xs
find_same p q [] h = refl
find_same p q (x ∷ xs) h =
    elim (cases_Bool (q x)) [
      | inl t ↦ cond-true _ _ _ (h.0 ∙ t) ∙ sym (cond-true _ _ _ t)
      | inr f ↦ cond-false _ _ _ (h.0 ∙ f) ∙ find_same p q xs h.1 ∙ sym (cond-false _ _ _ f)
    ]

pub find_map : {X Y : Type 0} (p : Y → Bool) (f : X → Y) (xs : List X) → find p (map f xs) ≡ option_map f (find (λ x. p (f x)) xs)
find_map p f [] = refl
find_map p f (x ∷ xs) =
    elim (cases_Bool (p (f x))) [
      | inl t ↦ cond-true _ _ _ t ∙ sym (ap (option_map f) (cond-true _ _ _ t))
      | inr e ↦ cond-false _ _ _ e ∙ find_map p f xs ∙ sym (ap (option_map f) (cond-false _ _ _ e))
    ]

-- ---- one element is changed

pub all_change : {X : Type 0} (P : X → Type 0) (p : X → Bool) (f : X → X) (xs : List X) → ((x : X) → p x ≡ true → P x → P (f x)) → AllByRecursion P xs → AllByRecursion P (change p f xs)
all_change P p f [] g h = tt
all_change P p f (x ∷ xs) g h =
    cond_both (p x) (f x ∷ xs) (x ∷ change p f xs) (AllByRecursion P) (λ t. (g x t h.0, h.1)) (λ _. (h.0, all_change P p f xs g h.1))

pub map_change : {X Y : Type 0} (g : X → Y) (p : X → Bool) (f : X → X) (xs : List X) → ((x : X) → g (f x) ≡ g x) → map g (change p f xs) ≡ map g xs
map_change g p f [] same = refl
map_change g p f (x ∷ xs) same =
    cond_both (p x) (f x ∷ xs) (x ∷ change p f xs) (λ l. map g l ≡ map g (x ∷ xs)) (λ _. ap (λ y. y ∷ map g xs) (same x)) (λ _. ap (λ ys. g x ∷ ys) (map_change g p f xs same))

module _ {X Y : Type 0} (q : X → Bool) (g : X → Option Y) (y : Y) where
  at_first : (x : X) (xs : List X) → q x ≡ true → option_and_then g (find q (x ∷ xs)) ≡ g x
  at_first x xs t = ap (option_and_then g) (cond-true _ _ _ t)

  at_later : (x : X) (xs : List X) → q x ≡ false → option_and_then g (find q (x ∷ xs)) ≡ option_and_then g (find q xs)
  at_later x xs f = ap (option_and_then g) (cond-false _ _ _ f)

  pub then_append : (xs ys : List X) → option_and_then g (find q xs) ≡ Some y → option_and_then g (find q (xs ++ ys)) ≡ Some y
  then_append [] ys e = cc
  then_append (x ∷ xs) ys e =
      elim (cases_Bool (q x)) [
        | inl t ↦ at_first x (xs ++ ys) t ∙ sym (at_first x xs t) ∙ e
        | inr f ↦ at_later x (xs ++ ys) f ∙ then_append xs ys (sym (at_later x xs f) ∙ e)
      ]

  changed_first : (f : X → X) (x : X) (xs : List X) → q (f x) ≡ q x → (g x ≡ Some y → g (f x) ≡ Some y)
      → option_and_then g (find q (x ∷ xs)) ≡ Some y → option_and_then g (find q (f x ∷ xs)) ≡ Some y
  changed_first f x xs same keeps e =
      elim (cases_Bool (q x)) [
        | inl t ↦ at_first (f x) xs (same ∙ t) ∙ keeps (sym (at_first x xs t) ∙ e)
        | inr z ↦ at_later (f x) xs (same ∙ z) ∙ sym (at_later x xs z) ∙ e
      ]

  pub then_change : (p : X → Bool) (f : X → X) (xs : List X) → ((x : X) → q (f x) ≡ q x) → ((x : X) → g x ≡ Some y → g (f x) ≡ Some y)
      → option_and_then g (find q xs) ≡ Some y → option_and_then g (find q (change p f xs)) ≡ Some y
  then_change p f [] same keeps e = e
  then_change p f (x ∷ xs) same keeps e =
      cond_both (p x) (f x ∷ xs) (x ∷ change p f xs) (λ l. option_and_then g (find q l) ≡ Some y)
      (λ _. changed_first f x xs (same x) (keeps x) e)
      (λ _. elim (cases_Bool (q x)) [
        | inl t ↦ at_first x (change p f xs) t ∙ sym (at_first x xs t) ∙ e
        | inr z ↦ at_later x (change p f xs) z ∙ then_change p f xs same keeps (sym (at_later x xs z) ∙ e)
      ])

module _ {X Y : Type 0} (r : X → Bool) (h : X → Y) where
  pub map_append : (y : Y) (xs ys : List X) → option_map h (find r xs) ≡ Some y → option_map h (find r (xs ++ ys)) ≡ Some y
  map_append y [] ys e = cc
  map_append y (x ∷ xs) ys e =
      elim (cases_Bool (r x)) [
        | inl t ↦ ap (option_map h) (cond-true _ _ _ t) ∙ sym (ap (option_map h) (cond-true _ _ _ t)) ∙ e
        | inr z ↦ ap (option_map h) (cond-false _ _ _ z) ∙ map_append y xs ys (sym (ap (option_map h) (cond-false _ _ _ z)) ∙ e)
      ]

  changed : (f : X → X) (x : X) (xs : List X) → r (f x) ≡ r x → h (f x) ≡ h x → option_map h (find r (f x ∷ xs)) ≡ option_map h (find r (x ∷ xs))
  changed f x xs same alike =
      elim (cases_Bool (r x)) [
        | inl t ↦ ap (option_map h) (cond-true _ _ _ (same ∙ t)) ∙ ap Some alike ∙ sym (ap (option_map h) (cond-true _ _ _ t))
        | inr z ↦ ap (option_map h) (cond-false _ _ _ (same ∙ z)) ∙ sym (ap (option_map h) (cond-false _ _ _ z))
      ]

  pub map_find_change : (p : X → Bool) (f : X → X) (xs : List X) → ((x : X) → r (f x) ≡ r x) → ((x : X) → h (f x) ≡ h x)
      → option_map h (find r (change p f xs)) ≡ option_map h (find r xs)
  map_find_change p f [] same alike = refl
  map_find_change p f (x ∷ xs) same alike =
      cond_both (p x) (f x ∷ xs) (x ∷ change p f xs) (λ l. option_map h (find r l) ≡ option_map h (find r (x ∷ xs)))
      (λ _. changed f x xs (same x) (alike x))
      (λ _. elim (cases_Bool (r x)) [
        | inl t ↦ ap (option_map h) (cond-true _ _ _ t) ∙ sym (ap (option_map h) (cond-true _ _ _ t))
        | inr z ↦ ap (option_map h) (cond-false _ _ _ z) ∙ map_find_change p f xs same alike ∙ sym (ap (option_map h) (cond-false _ _ _ z))
      ])
