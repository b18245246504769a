-- What holds of each element of a list holds of each element of what is made of it.
use Rattle.std.proofs.Common.{◌≡◌, ℕ, zero, suc, ◌<◌, Bool, List, [], ◌∷◌, take, drop, slice_get, slice_index, Option, Some, None, refl, arith}
use Rattle.std.specs.Prelude.{filter_map}
use Rattle.std.specs.List.{AllByRecursion, find}
use Rattle.std.proofs.lemmas.Bool.{cond_both}
use Rattle.law_scripts.specs.script_spelling.Spelling.{AreBytes}

abbrev pub Holds : {X : Type 0} → (X → Type 0) → Option X → Type 0
Holds P None = Unit {0}
Holds P (Some x) = P x

pub all_get : {X : Type 0} (P : X → Type 0) (xs : List X) (i : ℕ) → AllByRecursion P xs → Holds P (slice_get xs i)
all_get P [] i h = tt
all_get P (x ∷ xs) zero h = h.0
all_get P (x ∷ xs) (suc i) h = all_get P xs i h.1

pub all_take : {X : Type 0} (P : X → Type 0) (n : ℕ) (xs : List X) → AllByRecursion P xs → AllByRecursion P (take n xs)
all_take P zero xs h = tt
all_take P (suc n) [] h = tt
all_take P (suc n) (x ∷ xs) h = (h.0, all_take P n xs h.1)

pub all_drop : {X : Type 0} (P : X → Type 0) (n : ℕ) (xs : List X) → AllByRecursion P xs → AllByRecursion P (drop n xs)
all_drop P zero xs h = h
all_drop P (suc n) [] h = tt
all_drop P (suc n) (x ∷ xs) h = all_drop P n xs h.1

-- what the first element that passes is
pub found : {X : Type 0} (P : X → Type 0) (p : X → Bool) (xs : List X) → AllByRecursion P xs → Holds P (find p xs)
found P p [] h = tt
found P p (x ∷ xs) h = cond_both (p x) (Some x) (find p xs) (Holds P) (λ _. h.0) (λ _. found P p xs h.1)

kept_one : {X Y : Type 0} (Q : Y → Type 0) (f : X → Option Y) (xs : List X) (y : Option Y) → Holds Q y → AllByRecursion Q (filter_map f xs) → (x : X) → f x ≡ y → AllByRecursion Q (filter_map f (x ∷ xs))
kept_one Q f xs None h k x e = rw e k
kept_one Q f xs (Some y) h k x e = rw e (h, k)

pub all_kept : {X Y : Type 0} (P : X → Type 0) (Q : Y → Type 0) (f : X → Option Y) (xs : List X) → ((x : X) → P x → Holds Q (f x)) → AllByRecursion P xs → AllByRecursion Q (filter_map f xs)
all_kept P Q f [] g h = tt
all_kept P Q f (x ∷ xs) g h = kept_one Q f xs (f x) (g x h.0) (all_kept P Q f xs g h.1) x refl

-- a place past the end reads as 0
pub byte_at : (bs : List ℕ) → AreBytes bs → (i : ℕ) → slice_index bs i < 256
byte_at [] h i = omega arith
byte_at (b ∷ bs) h zero = h.0
byte_at (b ∷ bs) h (suc i) = byte_at bs h.1 i
