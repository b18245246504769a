-- The members of some transfers in a row, and of those that pass a test.
use Rattle.std.proofs.Common.{◌≡◌, ◌≢◌, ℕ, zero, suc, ◌+◌, ◌<◌, ◌≤◌, Bool, true, false, cond, List, [], ◌∷◌, length, map, take, drop, slice_get, Some, ap, ◌∙◌, refl, arith}
use Rattle.std.specs.Prelude.{filter, nat_eq}
use Rattle.std.specs.List.{AllByRecursion}
use Rattle.std.proofs.lemmas.Bool.{eq-eqb}
use Rattle.std.proofs.lemmas.List.{length-map}
use Rattle.std.proofs.lemmas.Option.{same_Some}
use Rattle.law_common.proofs.Booleans.{first_true, second_true}
use Rattle.law_common.proofs.Lists.{all_more}
use Rattle.drv_chains.specs.declared.members.Member.{Member}
use Rattle.drv_chains.specs.Chains.{id_of}
use Rattle.drv_table.specs.declared.content.Transfer.{Transfer}
use Rattle.law_driver.specs.listed_members.Members.{is_in_names, AreOnce}
use Rattle.law_driver.proofs.lemmas.listed_members.Schedules.{none_any, name_differs}

-- ---- those that stand in a list of members

in_first : (f : Transfer → Member) (n : ℕ) (xs : List Transfer) (t : ℕ) (y : Transfer) → slice_get xs t ≡ Some y → t < n → is_in_names (id_of (f y)) (map f (take n xs)) ≡ true
in_first f zero xs t y there small = absurd (omega (arith, small))
in_first f (suc n) [] t y there small = absurd (cc)
in_first f (suc n) (x ∷ xs) zero y there small =
    let same : x ≡ y = same_Some x y there in
    first_true (nat_eq (id_of (f x)) (id_of (f y))) (is_in_names (id_of (f y)) (map f (take n xs)))
    (eq-eqb (id_of (f x)) (id_of (f y)) (ap (λ z. id_of (f z)) same))
in_first f (suc n) (x ∷ xs) (suc t) y there small =
    second_true (nat_eq (id_of (f x)) (id_of (f y))) (is_in_names (id_of (f y)) (map f (take n xs)))
    (in_first f n xs t y there (omega (arith, small)))

pub in_range : (f : Transfer → Member) (first n : ℕ) (xs : List Transfer) (t : ℕ) (y : Transfer) → slice_get xs t ≡ Some y → first ≤ t → t < first + n → is_in_names (id_of (f y)) (map f (take n (drop first xs))) ≡ true
in_range f zero n xs t y there low high = in_first f n xs t y there (omega (arith, high))
in_range f (suc first) n [] t y there low high = absurd (cc)
in_range f (suc first) n (x ∷ xs) zero y there low high = absurd (omega (arith, low))
in_range f (suc first) n (x ∷ xs) (suc t) y there low high = in_range f first n xs t y there (omega (arith, low)) (omega (arith, high))

-- ---- all of them

first_all : (P : Member → Type 0) (f : Transfer → Member) (n : ℕ) (xs : List Transfer) → ((t : ℕ) (y : Transfer) → slice_get xs t ≡ Some y → P (f y)) → AllByRecursion P (map f (take n xs))
first_all P f zero xs each = tt
first_all P f (suc n) [] each = tt
first_all P f (suc n) (x ∷ xs) each = (each 0 x refl, first_all P f n xs (λ t y there. each (suc t) y there))

pub range_all : (P : Member → Type 0) (f : Transfer → Member) (first n : ℕ) (xs : List Transfer) → ((t : ℕ) (y : Transfer) → slice_get xs t ≡ Some y → first ≤ t → P (f y)) → AllByRecursion P (map f (take n (drop first xs)))
range_all P f zero n xs each = first_all P f n xs (λ t y there. each t y there (omega arith))
range_all P f (suc first) zero [] each = tt
range_all P f (suc first) (suc n) [] each = tt
range_all P f (suc first) n (x ∷ xs) each = range_all P f first n xs (λ t y there low. each (suc t) y there (omega (arith, low)))

none_named : (id : ℕ) (ms : List Member) → AllByRecursion (λ m. id_of m ≢ id) ms → is_in_names id ms ≡ false
none_named id ms all = none_any (λ (m : Member). nat_eq (id_of m) id) ms (all_more (λ (m : Member). id_of m ≢ id) (λ (m : Member). nat_eq (id_of m) id ≡ false) ms (λ m differs. name_differs (id_of m) id differs) all)

first_once : (f : Transfer → Member) (n : ℕ) (xs : List Transfer) → ((t u : ℕ) (y z : Transfer) → slice_get xs t ≡ Some y → slice_get xs u ≡ Some z → t < u → id_of (f z) ≢ id_of (f y)) → AreOnce (map f (take n xs))
first_once f zero xs each = tt
first_once f (suc n) [] each = tt
first_once f (suc n) (x ∷ xs) each = (
  none_named (id_of (f x)) (map f (take n xs)) (first_all (λ m. id_of m ≢ id_of (f x)) f n xs (λ t y there. each 0 (suc t) x y refl there (omega arith))),
  first_once f n xs (λ t u y z there at less. each (suc t) (suc u) y z there at (omega (arith, less))),
)

pub range_once : (f : Transfer → Member) (first n : ℕ) (xs : List Transfer) → ((t u : ℕ) (y z : Transfer) → slice_get xs t ≡ Some y → slice_get xs u ≡ Some z → first ≤ t → t < u → id_of (f z) ≢ id_of (f y)) → AreOnce (map f (take n (drop first xs)))
range_once f zero n xs each = first_once f n xs (λ t u y z there at less. each t u y z there at (omega arith) less)
range_once f (suc first) zero [] each = tt
range_once f (suc first) (suc n) [] each = tt
range_once f (suc first) n (x ∷ xs) each = range_once f first n xs (λ t u y z there at low less. each (suc t) (suc u) y z there at (omega (arith, low)) (omega (arith, less)))

pub range_few : (f : Transfer → Member) (first n : ℕ) (xs : List Transfer) → length (map f (take n (drop first xs))) ≤ n
range_few f first n xs = let a = length-map (take n (drop first xs)) f in let b = few n (drop first xs) in omega (arith, a, b)
  where
    few : (n : ℕ) (ys : List Transfer) → length (take n ys) ≤ n
    few zero ys = omega arith
    few (suc n) [] = omega arith
    few (suc n) (y ∷ ys) = let r = few n ys in omega (arith, r)

-- ---- those that pass a test

pub in_passed : (f : Transfer → Member) (test : Transfer → Bool) (xs : List Transfer) (t : ℕ) (y : Transfer) → slice_get xs t ≡ Some y → test y ≡ true → is_in_names (id_of (f y)) (map f (filter test xs)) ≡ true
in_passed f test [] t y there on = absurd (cc)
in_passed f test (x ∷ xs) zero y there on =
    let same : x ≡ y = same_Some x y there in
    ap (λ b. is_in_names (id_of (f y)) (map f (cond b (x ∷ filter test xs) (filter test xs)))) (ap test same ∙ on)
    ∙ first_true (nat_eq (id_of (f x)) (id_of (f y))) (is_in_names (id_of (f y)) (map f (filter test xs)))
    (eq-eqb (id_of (f x)) (id_of (f y)) (ap (λ z. id_of (f z)) same))
in_passed f test (x ∷ xs) (suc t) y there on = at (test x) (in_passed f test xs t y there on)
  where
    at : (b : Bool) → is_in_names (id_of (f y)) (map f (filter test xs)) ≡ true → is_in_names (id_of (f y)) (map f (cond b (x ∷ filter test xs) (filter test xs))) ≡ true
    at true rest = second_true (nat_eq (id_of (f x)) (id_of (f y))) (is_in_names (id_of (f y)) (map f (filter test xs))) rest
    at false rest = rest

pub passed_all : (P : Member → Type 0) (f : Transfer → Member) (test : Transfer → Bool) (xs : List Transfer) → ((t : ℕ) (y : Transfer) → slice_get xs t ≡ Some y → test y ≡ true → P (f y)) → AllByRecursion P (map f (filter test xs))
passed_all P f test [] each = tt
passed_all P f test (x ∷ xs) each = at (test x) refl (passed_all P f test xs (λ t y there on. each (suc t) y there on))
  where
    at : (b : Bool) → test x ≡ b → AllByRecursion P (map f (filter test xs)) → AllByRecursion P (map f (cond b (x ∷ filter test xs) (filter test xs)))
    at true on rest = (each 0 x refl on, rest)
    at false off rest = rest

pub passed_once : (f : Transfer → Member) (test : Transfer → Bool) (xs : List Transfer) → ((t u : ℕ) (y z : Transfer) → slice_get xs t ≡ Some y → slice_get xs u ≡ Some z → test y ≡ true → test z ≡ true → t < u → id_of (f z) ≢ id_of (f y)) → AreOnce (map f (filter test xs))
passed_once f test [] each = tt
passed_once f test (x ∷ xs) each = at (test x) refl (passed_once f test xs (λ t u y z there at one two less. each (suc t) (suc u) y z there at one two (omega (arith, less))))
  where
    at : (b : Bool) → test x ≡ b → AreOnce (map f (filter test xs)) → AreOnce (map f (cond b (x ∷ filter test xs) (filter test xs)))
    at true on rest = (none_named (id_of (f x)) (map f (filter test xs)) (passed_all (λ m. id_of m ≢ id_of (f x)) f test xs (λ t y there one. each 0 (suc t) x y refl there on one (omega arith))), rest)
    at false off rest = rest
