-- The first endpoint with something to harvest is the first bit that is set.
use Rattle.std.proofs.Common.{◌≡◌, ◌≢◌, ℕ, zero, suc, ◌+◌, ◌-◌, ◌/◌, ◌%◌, ◌<◌, ◌≤◌, Bool, true, false, List, [], ◌∷◌, length, Option, Some, None, arith, refl, ap, sym, ◌∙◌, inl, inr}
use Rattle.std.specs.Prelude.{◌++◌, nat_eq, drop, option_map, slice_get, slice_set, slice_index, replicate, IfSome, IfNone, if◌then◌else◌}
use Rattle.std.specs.List.{position_or_len}
use Rattle.std.specs.Option.{option_map_or}
use Rattle.std.proofs.lemmas.Bool.{cases_Bool, lt-ltb, le-ltb, cond-true, cond-false, eqb-true, eq-eqb}
use Rattle.std.specs.Int.{bit_at}
use Rattle.std.proofs.lemmas.Nat.Bits.{bit_at-zero}
use Rattle.drv_table.specs.declared.content.Endpoint.{Endpoint}
use Rattle.drv_table.specs.DriverContent.{works}
use Rattle.drv_table.specs.Harvesting.{worker_from}
use Rattle.drv_endpoints.specs.Working.{works_at, bit_of, IsWorkSet, IsFirst, AreNone}

-- ---- the first place at which a test passes

passes : {X : Type 0} → (X → Bool) → List X → ℕ → Bool
passes p xs i = option_map_or p (slice_get xs i) false

here : {X : Type 0} (p : X → Bool) (x : X) (xs : List X) → p x ≡ true → position_or_len p (x ∷ xs) ≡ 0
here p x xs t = rw t refl

later : {X : Type 0} (p : X → Bool) (x : X) (xs : List X) → p x ≡ false → position_or_len p (x ∷ xs) ≡ suc (position_or_len p xs)
later p x xs t = rw t (omega arith)

first_place : {X : Type 0} (p : X → Bool) (xs : List X) (i : ℕ) → passes p xs i ≡ true → ((j : ℕ) → j < i → passes p xs j ≡ false) → (position_or_len p xs ≡ i) × (i < length xs)
unfolding passes
first_place p [] i t before = cc
first_place p (x ∷ xs) zero t before = (here p x xs t, omega arith)
first_place p (x ∷ xs) (suc i) t before =
    let more = first_place p xs i t (λ j h. before (suc j) (omega (arith, h))) in
    (omega (arith, later p x xs (before 0 (omega arith)), more.0), omega (arith, more.1))

no_place : {X : Type 0} (p : X → Bool) (xs : List X) → ((j : ℕ) → passes p xs j ≡ false) → length xs ≤ position_or_len p xs
unfolding passes
no_place p [] before = omega arith
no_place p (x ∷ xs) before = omega (arith, later p x xs (before 0), no_place p xs (λ j. before (suc j)))

get_dropped : {X : Type 0} (xs : List X) (k j : ℕ) → slice_get (drop k xs) j ≡ slice_get xs (k + j)
get_dropped xs zero j = ap (slice_get xs) (let e : j ≡ 0 + j = omega arith in e)
get_dropped [] (suc k) j = refl
get_dropped (x ∷ xs) (suc k) j = get_dropped xs k j ∙ ap (slice_get (x ∷ xs)) (let e : suc (k + j) ≡ suc k + j = omega arith in e)

-- ---- by the bits

on_is : (b : Bool) → ◌≡◌ {A = ℕ} (if b then 1 else 0) 1 → b ≡ true
on_is true e = refl
on_is false e = cc

off_is : (b : Bool) → ◌≡◌ {A = ℕ} (if b then 1 else 0) 0 → b ≡ false
off_is true e = cc
off_is false e = refl

dropped : (xs : List Endpoint) (k e : ℕ) → k ≤ e → passes works (drop k xs) (e - k) ≡ works_at xs e
unfolding passes
dropped xs k e h =
    let there : k + (e - k) ≡ e = omega (arith, h) in
    ap (λ (o : Option Endpoint). option_map_or works o false) (get_dropped xs k (e - k) ∙ ap (slice_get xs) there)

pub worker_is : (xs : List Endpoint) (words : List ℕ) (k e : ℕ) → IsWorkSet xs words → IsFirst words k e → worker_from xs k ≡ Some e
worker_is xs words k e set first =
    let at = first_place works (drop k xs) (e - k)
    (dropped xs k e first.on ∙ on_is (works_at xs e) (sym (set.each e) ∙ first.set))
    (λ j h. let there : (k + j) - k ≡ j = omega arith in
    ap (passes works (drop k xs)) (sym there)
    ∙ dropped xs k (k + j) (omega arith)
    ∙ off_is (works_at xs (k + j)) (sym (set.each (k + j)) ∙ first.before (k + j) (omega arith) (omega (arith, h, first.on))))
    in
    let there : k + (e - k) ≡ e = omega (arith, first.on) in
    let found : position_or_len works (drop k xs) < length (drop k xs) = omega (arith, at.0, at.1) in
    ap (option_map (λ i. k + i)) (cond-true _ _ _ (lt-ltb _ _ found) ∙ ap Some at.0) ∙ ap Some there

pub no_worker : (xs : List Endpoint) (words : List ℕ) (k : ℕ) → IsWorkSet xs words → AreNone words k → worker_from xs k ≡ None
no_worker xs words k set none =
    let past = no_place works (drop k xs)
    (λ j. let there : (k + j) - k ≡ j = omega arith in
    ap (passes works (drop k xs)) (sym there)
    ∙ dropped xs k (k + j) (omega arith)
    ∙ off_is (works_at xs (k + j)) (sym (set.each (k + j)) ∙ none (k + j) (omega arith)))
    in
    ap (option_map (λ i. k + i)) (cond-false _ _ _ (le-ltb _ _ past))

-- ---- the bits after a write and after one more

set_here : (xs : List Endpoint) (e : ℕ) (x : Endpoint) → e < length xs → works_at (slice_set xs e x) e ≡ works x
set_here [] e x h = absurd (omega arith)
set_here (y ∷ ys) zero x h = refl
set_here (y ∷ ys) (suc e) x h = set_here ys e x (omega (arith, h))

set_elsewhere : (xs : List Endpoint) (e : ℕ) (x : Endpoint) (k : ℕ) → k ≢ e → works_at (slice_set xs e x) k ≡ works_at xs k
set_elsewhere [] e x k other = refl
set_elsewhere (y ∷ ys) zero x zero other = absurd (other refl)
set_elsewhere (y ∷ ys) zero x (suc k) other = refl
set_elsewhere (y ∷ ys) (suc e) x zero other = refl
set_elsewhere (y ∷ ys) (suc e) x (suc k) other = set_elsewhere ys e x k (λ r. other (ap suc r))

pushed_here : (xs : List Endpoint) (x : Endpoint) → works_at (xs ++ x ∷ []) (length xs) ≡ works x
pushed_here [] x = refl
pushed_here (y ∷ ys) x = pushed_here ys x

pushed_elsewhere : (xs : List Endpoint) (x : Endpoint) (k : ℕ) → k ≢ length xs → works_at (xs ++ x ∷ []) k ≡ works_at xs k
pushed_elsewhere [] x zero other = absurd (other refl)
pushed_elsewhere [] x (suc k) other = refl
pushed_elsewhere (y ∷ ys) x zero other = refl
pushed_elsewhere (y ∷ ys) x (suc k) other = pushed_elsewhere ys x k (λ r. other (ap suc r))

-- one bit is that of an endpoint, and the others stay
one_bit : (xs ys : List Endpoint) (old new : List ℕ) (e : ℕ) (x : Endpoint) → works_at ys e ≡ works x
    → ((k : ℕ) → k ≢ e → works_at ys k ≡ works_at xs k) → IsWorkSet xs old
    → ((k : ℕ) → bit_of new k ≡ (if nat_eq k e then (if works x then 1 else 0) else bit_of old k)) → IsWorkSet ys new
one_bit xs ys old new e x here elsewhere set bits = record {
  each = λ k. elim (cases_Bool (nat_eq k e)) [
    | inl t ↦ let same : k ≡ e = eqb-true k e t in
        bits k ∙ cond-true _ _ _ t ∙ ap (λ (b : Bool). if b then 1 else 0) (sym (ap (works_at ys) same ∙ here))
    | inr t ↦ let other : k ≢ e = λ r. let u : nat_eq k e ≡ true = eq-eqb k e r in cc in
        bits k ∙ cond-false _ _ _ t ∙ set.each k ∙ ap (λ (b : Bool). if b then 1 else 0) (sym (elsewhere k other))
  ];
}

pub set_written : (xs : List Endpoint) (old new : List ℕ) (e : ℕ) (x : Endpoint) → e < length xs → IsWorkSet xs old
    → ((k : ℕ) → bit_of new k ≡ (if nat_eq k e then (if works x then 1 else 0) else bit_of old k)) → IsWorkSet (slice_set xs e x) new
set_written xs old new e x h set bits = one_bit xs (slice_set xs e x) old new e x (set_here xs e x h) (set_elsewhere xs e x) set bits

pub set_pushed : (xs : List Endpoint) (old new : List ℕ) (x : Endpoint) → IsWorkSet xs old
    → ((k : ℕ) → bit_of new k ≡ (if nat_eq k (length xs) then (if works x then 1 else 0) else bit_of old k)) → IsWorkSet (xs ++ x ∷ []) new
set_pushed xs old new x set bits = one_bit xs (xs ++ x ∷ []) old new (length xs) x (pushed_here xs x) (pushed_elsewhere xs x) set bits

zeros_index : (n i : ℕ) → slice_index (replicate n 0) i ≡ 0
zeros_index zero i = refl
zeros_index (suc n) zero = refl
zeros_index (suc n) (suc i) = zeros_index n i

pub no_work : (n : ℕ) → IsWorkSet [] (replicate n 0)
unfolding bit_of
no_work n = record { each = λ e. ap (λ w. bit_at w (e % 64)) (zeros_index n (e / 64)) ∙ bit_at-zero (e % 64) }

pub next_is : (xs : List Endpoint) (words : List ℕ) (k : ℕ) (r : Option ℕ) → IsWorkSet xs words → IfSome r (λ e. IsFirst words k e) → IfNone r (AreNone words k) → r ≡ worker_from xs k
next_is xs words k None set some none = sym (no_worker xs words k set none)
next_is xs words k (Some e) set some none = sym (worker_is xs words k e set some)
