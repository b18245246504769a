-- Lists that rise: two tests that part the list give one, one after the other; and a rising list with one more.
use Rattle.std.proofs.Common.{◌≡◌, ℕ, ◌-◌, ◌<◌, ◌≤◌, Bool, true, false, List, [], ◌∷◌, ◌++◌, cond, inl, inr, refl, ap, sym, ◌∙◌, arith}
use Rattle.std.specs.Prelude.{◌||◌, filter}
use Rattle.std.specs.List.{AllByRecursion, list_any, flat_map}
use Rattle.std.proofs.lemmas.Bool.{false≢true, or_cases}
use Rattle.drv_chains.proofs.Links.{not_true}
use Rattle.drv_chains.proofs.Linking.{weaken}
use Rattle.drv_chains.proofs.Words.{all_kept}
use Rattle.drv_members.specs.Members.{IsRising}
use Rattle.drv_members.proofs.Sorted.{none_pass}

-- two tests
none_first : {X : Type 0} (n : X → ℕ) (t u : X → Bool) (x : X) (xs : List X) → u x ≡ true → ((x y : X) → t x ≡ true → u y ≡ true → n x < n y) → AllByRecursion (λ y. n x ≤ n y) xs → filter t xs ≡ []
none_first {X} n t u x xs e apart up = none_pass t xs (weaken (λ y. n x ≤ n y) (λ y. t y ≡ false) (λ y h. not_true (t y) (λ k. let l = apart y x k e in omega (arith, h, l))) xs up)

one_more : {X : Type 0} (n : X → ℕ) (t u : X → Bool) (x : X) (xs : List X) (b c : Bool) → t x ≡ b → u x ≡ c → ((x y : X) → t x ≡ true → u y ≡ true → n x < n y) → AllByRecursion (λ y. n x ≤ n y) xs
    → filter t xs ++ filter u xs ≡ filter (λ y. t y || u y) xs
    → cond b (x ∷ filter t xs) (filter t xs) ++ cond c (x ∷ filter u xs) (filter u xs) ≡ cond (b || c) (x ∷ filter (λ y. t y || u y) xs) (filter (λ y. t y || u y) xs)
one_more n t u x xs true true e k apart up h = absurd (let l = apart x x e k in omega (arith, l))
one_more n t u x xs true false e k apart up h = ap (λ ys. x ∷ ys) h
one_more n t u x xs false true e k apart up h =
    let z : filter t xs ≡ [] = none_first n t u x xs k apart up in
    ap (λ ys. ys ++ x ∷ filter u xs) z ∙ ap (λ ys. x ∷ ys) (ap (λ ys. ys ++ filter u xs) (sym z) ∙ h)
one_more n t u x xs false false e k apart up h = h

pub merge : {X : Type 0} (n : X → ℕ) (t u : X → Bool) (xs : List X) → IsRising n xs → ((x y : X) → t x ≡ true → u y ≡ true → n x < n y) → filter t xs ++ filter u xs ≡ filter (λ x. t x || u x) xs
unfolding IsRising
merge n t u [] up apart = refl
merge n t u (x ∷ xs) up apart = one_more n t u x xs (t x) (u x) refl refl apart up.0 (merge n t u xs up.1 apart)

-- tests of falling numbers
unfoldable pub Drops : ℕ → List ℕ → Type 0
Drops high [] = Unit {0}
Drops high (p ∷ ps) = (p < high) × Drops p ps

any_below : {X : Type 0} (test : ℕ → X → Bool) (m : X → ℕ) (y : X) (high : ℕ) (ps : List ℕ) → ((p : ℕ) (x : X) → test p x ≡ true → m x ≡ p) → Drops high ps → list_any (λ p. test p y) ps ≡ true → m y < high
unfolding Drops
any_below test m y high [] is falls h = absurd (false≢true h)
any_below test m y high (p ∷ ps) is falls h = elim (or_cases (test p y) (list_any (λ r. test r y) ps) h) [
  | inl a ↦ let e = is p y a in let l = falls.0 in omega (arith, e, l)
  | inr b ↦ let k = any_below test m y p ps is falls.1 b in let l = falls.0 in omega (arith, k, l)
]

none_of : {X : Type 0} (xs : List X) → filter (λ x. false) xs ≡ []
none_of [] = refl
none_of (x ∷ xs) = none_of xs

pub merge_all : {X : Type 0} (test : ℕ → X → Bool) (m : X → ℕ) (most : ℕ) (xs : List X) (high : ℕ) (ps : List ℕ) → ((p : ℕ) (x : X) → test p x ≡ true → m x ≡ p) → high ≤ most → Drops high ps → IsRising (λ x. most - m x) xs
    → flat_map (λ p. filter (test p) xs) ps ≡ filter (λ x. list_any (λ p. test p x) ps) xs
unfolding Drops
merge_all test m most xs high [] is le falls up = sym (none_of xs)
merge_all test m most xs high (p ∷ ps) is le falls up =
    let l = falls.0 in
    let lower : p ≤ most = omega (arith, le, l) in
    ap (λ ys. filter (test p) xs ++ ys) (merge_all test m most xs p ps is lower falls.1 up)
    ∙ merge (λ x. most - m x) (test p) (λ x. list_any (λ r. test r x) ps) xs up
    (λ x y a b. let e = is p x a in let k = any_below test m y p ps is falls.1 b in omega (arith, e, k, l, le))

-- a rising list by another number, and with one more
both_weaken : {X : Type 0} (P Q R : X → Type 0) → ((x : X) → P x → Q x → R x) → (xs : List X) → AllByRecursion P xs → AllByRecursion Q xs → AllByRecursion R xs
both_weaken P Q R f [] h k = tt
both_weaken P Q R f (x ∷ xs) h k = (f x h.0 k.0, both_weaken P Q R f xs h.1 k.1)

pub rising_by : {X : Type 0} (n m : X → ℕ) (P : X → Type 0) (xs : List X) → ((x y : X) → P x → P y → n x ≤ n y → m x ≤ m y) → AllByRecursion P xs → IsRising n xs → IsRising m xs
unfolding IsRising
rising_by n m P [] f h up = tt
rising_by n m P (x ∷ xs) f h up = (both_weaken (λ y. n x ≤ n y) P (λ y. m x ≤ m y) (λ y a b. f x y h.0 b a) xs up.0 h.1, rising_by n m P xs f h.1 up.1)

pub both_all : {X : Type 0} (P : X → Type 0) (xs ys : List X) → AllByRecursion P xs → AllByRecursion P ys → AllByRecursion P (xs ++ ys)
both_all P [] ys h k = k
both_all P (x ∷ xs) ys h k = (h.0, both_all P xs ys h.1 k)

rising_or_not : {X : Type 0} (n : X → ℕ) (x : X) (ys : List X) (b : Bool) → AllByRecursion (λ y. n x ≤ n y) ys → IsRising n ys → IsRising n (cond b (x ∷ ys) ys)
unfolding IsRising
rising_or_not n x ys true h up = (h, up)
rising_or_not n x ys false h up = up

pub rising_kept : {X : Type 0} (n : X → ℕ) (p : X → Bool) (xs : List X) → IsRising n xs → IsRising n (filter p xs)
unfolding IsRising
rising_kept n p [] up = tt
rising_kept n p (x ∷ xs) up = rising_or_not n x (filter p xs) (p x) (all_kept (λ y. n x ≤ n y) p xs up.0) (rising_kept n p xs up.1)

pub rising_more : {X : Type 0} (n : X → ℕ) (xs : List X) (y : X) (zs : List X) → IsRising n xs → IsRising n zs → AllByRecursion (λ x. n x ≤ n y) xs → AllByRecursion (λ z. n y ≤ n z) zs → IsRising n (xs ++ y ∷ zs)
unfolding IsRising
rising_more n [] y zs a b h k = (k, b)
rising_more n (x ∷ xs) y zs a b h k =
    let l = h.0 in
    (both_all (λ z. n x ≤ n z) xs (y ∷ zs) a.0 (l, weaken (λ z. n y ≤ n z) (λ z. n x ≤ n z) (λ z g. omega (arith, l, g)) zs k), rising_more n xs y zs a.1 b h.1 k)

-- what stands ahead of one in a rising list
at_one : {X : Type 0} (P : X → Type 0) (xs : List X) (y : X) (zs : List X) → AllByRecursion P (xs ++ y ∷ zs) → P y
at_one P [] y zs h = h.0
at_one P (x ∷ xs) y zs h = at_one P xs y zs h.1

pub ahead_lower : {X : Type 0} (n : X → ℕ) (xs : List X) (y : X) (zs : List X) → IsRising n (xs ++ y ∷ zs) → AllByRecursion (λ x. n x ≤ n y) xs
unfolding IsRising
ahead_lower n [] y zs up = tt
ahead_lower n (x ∷ xs) y zs up = (at_one (λ z. n x ≤ n z) xs y zs up.0, ahead_lower n xs y zs up.1)
