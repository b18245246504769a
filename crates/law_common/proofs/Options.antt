-- What is there, or isn't.
use Rattle.std.proofs.Common.{Option, Some, ◌≡◌, ℕ, None, Bool, cond, true, false, if◌then◌else◌, refl}
use Rattle.std.specs.Prelude.{is_some}

pub same_Some : {A : Type 0} (x y : A) → ◌≡◌ {A = Option A} (Some x) (Some y) → x ≡ y
same_Some x y is = cc

pub none_some : (n : ℕ) → ◌≡◌ {A = Option ℕ} None (Some n) → ⊥
none_some n is = cc

pub number_is_none : (t : ℕ) → Some t ≡ None → ⊥
number_is_none t e = cc

pub some_not_none : (i : ℕ) → ◌≡◌ {A = Option ℕ} (Some i) None → ⊥
some_not_none i e = cc

pub by_test : (b : Bool) (i : ℕ) (o : Option ℕ) → (o ≡ None → ⊥) → cond b (Some i) o ≡ None → ⊥
by_test true i o later e = some_not_none i e
by_test false i o later e = later e

pub if_found : (b : Bool) (o : Option ℕ) (k : ℕ) → (if b then o else None) ≡ Some k → (b ≡ true) × (o ≡ Some k)
if_found true o k e = (refl, e)
if_found false o k e = absurd cc

pub no_hub : (o : Option ℕ) → is_some o ≡ false → o ≡ None
no_hub None e = refl
no_hub (Some x) e = cc

pub either_none : {X : Type 0} (b : Bool) (o : Option X) → o ≡ None → (if b then None else o) ≡ None
either_none true o is = refl
either_none false o is = is

pub none_is_some : {A : Type 0} (y : A) → ◌≡◌ {A = Option A} None (Some y) → ⊥
none_is_some y same = cc

pub absent : (o : Option ℕ) (n : ℕ) → o ≡ None → o ≡ Some n → ⊥
absent o n none some = cc
