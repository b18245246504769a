-- What holds of all numbers of a list, and of all transfers of an endpoint.
use Rattle.std.proofs.Common.{◌≡◌, ℕ, suc, ◌+◌, ◌==◌, Bool, true, false, if◌then◌else◌, List, [], ◌∷◌, Some, ap, refl, subst, ◌∙◌, arith}
use Rattle.std.specs.Prelude.{slice_get, option_map}
use Rattle.std.specs.List.{AllByRecursion}
use Rattle.drv_table.specs.declared.content.Transfer.{Transfer}
use Rattle.drv_table.specs.DriverContent.{DriverContent}
use Rattle.law_driver.proofs.lemmas.run_owners.Released.{same_by_test}
use Rattle.claims_world.specs.Requests.{endpoint_of, numbers_from, numbers_of}

pub all_map : (P Q : ℕ → Type 0) → ((t : ℕ) → P t → Q t) → (ts : List ℕ) → AllByRecursion P ts → AllByRecursion Q ts
all_map P Q each [] all = tt
all_map P Q each (t ∷ ts) all = (each t all.0, all_map P Q each ts all.1)

pub all_both : (P Q R : ℕ → Type 0) → ((t : ℕ) → P t → Q t → R t) → (ts : List ℕ) → AllByRecursion P ts → AllByRecursion Q ts → AllByRecursion R ts
all_both P Q R each [] one other = tt
all_both P Q R each (t ∷ ts) one other = (each t one.0 other.0, all_both P Q R each ts one.1 other.1)

numbers_by : (e n : ℕ) (y : Transfer) (ys : List Transfer) (P : ℕ → Type 0) (b : Bool) → (b ≡ true → P n) → AllByRecursion P (numbers_from e (suc n) ys) → AllByRecursion P (if b then n ∷ numbers_from e (suc n) ys else numbers_from e (suc n) ys)
numbers_by e n y ys P true first rest = (first refl, rest)
numbers_by e n y ys P false first rest = rest

pub numbers_all : (e n : ℕ) (ys : List Transfer) (P : ℕ → Type 0) → ((i : ℕ) (y : Transfer) → slice_get ys i ≡ Some y → y.endpoint ≡ e → P (n + i)) → AllByRecursion P (numbers_from e n ys)
numbers_all e n [] P each = tt
numbers_all e n (y ∷ ys) P each =
    numbers_by e n y ys P (y.endpoint == e) (λ on. let same : n + 0 ≡ n = omega arith in subst P same (each 0 y refl (same_by_test y.endpoint e on)))
    (numbers_all e (suc n) ys P (λ i z here of. let same : n + suc i ≡ suc n + i = omega arith in subst P same (each (suc i) z here of)))

pub numbers_are : (d : DriverContent) (e : ℕ) → AllByRecursion (λ t. endpoint_of d t ≡ Some e) (numbers_of d e)
numbers_are d e =
    numbers_all e 0 d.transfers (λ t. endpoint_of d t ≡ Some e)
    (λ i y here of. let same : i ≡ 0 + i = omega arith in subst (λ (t : ℕ). endpoint_of d t ≡ Some e) same (ap (option_map (λ (z : Transfer). z.endpoint)) here ∙ ap (λ (k : ℕ). Some k) of))
