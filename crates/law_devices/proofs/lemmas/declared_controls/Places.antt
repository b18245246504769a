-- The place of the first element that passes a test, and the elements of a list of which one has changed.
use Rattle.std.proofs.Common.{◌≡◌, ℕ, zero, suc, nat_lt, Bool, false, cond, List, [], ◌∷◌, length, slice_get, Some, None, refl, ap, ◌∙◌, arith}
use Rattle.std.specs.Prelude.{position}
use Rattle.std.specs.List.{AllByRecursion, position_or_len}
use Rattle.law_devices.proofs.Lists.{Holds}

first_same : {X : Type 0} (p q : X → Bool) (xs : List X) → AllByRecursion (λ x. p x ≡ q x) xs → position_or_len p xs ≡ position_or_len q xs
first_same p q [] h = refl
first_same p q (x ∷ xs) h = rw (h.0, first_same p q xs h.1) refl

-- by tests that agree on each element
pub position_same : {X : Type 0} (p q : X → Bool) (xs : List X) → AllByRecursion (λ x. p x ≡ q x) xs → position p xs ≡ position q xs
position_same p q xs h = ap (λ (n : ℕ). cond (nat_lt n (length xs)) (Some n) None) (first_same p q xs h)

first_none : {X : Type 0} (p : X → Bool) (xs : List X) → AllByRecursion (λ x. p x ≡ false) xs → position_or_len p xs ≡ length xs
first_none p [] h = refl
first_none p (x ∷ xs) h = rw h.0 (omega (arith, first_none p xs h.1))

not_less : (n : ℕ) → nat_lt n n ≡ false
not_less n = grind arith

-- where none passes
pub position_none : {X : Type 0} (p : X → Bool) (xs : List X) → AllByRecursion (λ x. p x ≡ false) xs → position p xs ≡ None
position_none p xs h =
    ap (λ (n : ℕ). cond (nat_lt n (length xs)) (Some n) None) (first_none p xs h) ∙ ap (λ (b : Bool). cond b (Some (length xs)) None) (not_less (length xs))

pub all_get : {X : Type 0} (P : X → Type 0) (xs : List X) (i : ℕ) → AllByRecursion P xs → Holds P (slice_get xs i)
all_get P [] i h = tt
all_get P (x ∷ xs) zero h = h.0
all_get P (x ∷ xs) (suc i) h = all_get P xs i h.1

pub all_both : {X : Type 0} (P Q R : X → Type 0) (xs : List X) → ((x : X) → P x → Q x → R x) → AllByRecursion P xs → AllByRecursion Q xs → AllByRecursion R xs
all_both P Q R [] g h k = tt
all_both P Q R (x ∷ xs) g h k = (g x h.0 k.0, all_both P Q R xs g h.1 k.1)
