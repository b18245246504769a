-- The request whose SETUP stands in a block.
use Rattle.std.proofs.Common.{◌≡◌, ℕ, ◌*◌, ◌<◌, ◌≤◌, Bool, true, false, not, ◌&&◌, ◌==◌, cond, nat_lt, get_or, List, [], ◌∷◌, length, slice_get, Option, Some, None, ap, sym, ◌∙◌, refl, arith}
use Rattle.std.specs.Prelude.{position}
use Rattle.std.specs.List.{position_or_len}
use Rattle.std.proofs.lemmas.List.Quantifiers.{position-Some}
use Rattle.std.proofs.lemmas.List.Sums.{fails_before_first}
use Rattle.std.proofs.lemmas.Option.{slice_get-get_or, slice_get_within, same_Some}
use Rattle.std.proofs.lemmas.Bool.{false≢true, true≢false, eq-eqb, eqb-true}
use Rattle.std.proofs.lemmas.Bool.Decides.{nat_tests}
use Rattle.law_common.proofs.Booleans.{not_on, and_both}
use Rattle.drv_table.specs.declared.content.Transfer.{Transfer}
use Rattle.drv_table.specs.declared.content.Sort.{Sort}
use Rattle.drv_table.specs.declared.content.Sort.TheVariants as sorts
use Rattle.drv_table.specs.DriverContent.{DriverContent}
use Rattle.claims_world.specs.Requests.{is_request, is_setup_at, setup_at}

-- ---- the first that passes

record IsFirst (p : Transfer → Bool) (xs : List Transfer) (i : ℕ) : Type 0 where
  one : Transfer
  here : slice_get xs i ≡ Some one
  passes : p one ≡ true

first_is : (p : Transfer → Bool) (xs : List Transfer) (i : ℕ) → position p xs ≡ Some i → IsFirst p xs i
first_is p [] i is = absurd (cc)
first_is p (x ∷ xs) i is = let at = position-Some p (x ∷ xs) i x is in record { one = get_or (x ∷ xs) i x; here = slice_get-get_or (x ∷ xs) i x at.0; passes = at.1 }

none_passes : (p : Transfer → Bool) (xs : List Transfer) (z : Transfer) (j : ℕ) (b : Bool) → nat_lt (position_or_len p xs) (length xs) ≡ b → cond b (Some (position_or_len p xs)) None ≡ None → slice_get xs j ≡ Some z → p z ≡ false
none_passes p xs z j true is none here = absurd (cc)
none_passes p xs z j false is none here =
    let many : length xs ≤ position_or_len p xs = grind (arith, nat_tests) in
    let low : j < length xs = slice_get_within xs j z here in
    let same : get_or xs j z ≡ z = same_Some (get_or xs j z) z (sym (slice_get-get_or xs j z low) ∙ here) in
    ap p (sym same) ∙ fails_before_first p xs j z (omega (arith, many, low))

only_by : (p : Transfer → Bool) (xs : List Transfer) (i : ℕ) (x : Transfer) (o : Option ℕ) → position p xs ≡ o → slice_get xs i ≡ Some x → p x ≡ true → ((k : ℕ) (z : Transfer) → slice_get xs k ≡ Some z → p z ≡ true → k ≡ i) → position p xs ≡ Some i
only_by p xs i x None is here passes only = absurd (false≢true (sym (none_passes p xs x i (nat_lt (position_or_len p xs) (length xs)) refl is here) ∙ passes))
only_by p xs i x (Some k) is here passes only = let f = first_is p xs k is in is ∙ ap (λ (j : ℕ). Some j) (only k f.one f.here f.passes)

nowhere_by : (p : Transfer → Bool) (xs : List Transfer) (o : Option ℕ) → position p xs ≡ o → ((k : ℕ) (z : Transfer) → slice_get xs k ≡ Some z → p z ≡ true → ⊥) → position p xs ≡ None
nowhere_by p xs None is none = is
nowhere_by p xs (Some k) is none = let f = first_is p xs k is in absurd (none k f.one f.here f.passes)

-- ---- a SETUP

pub record IsSetup (d : DriverContent) (a t : ℕ) : Type 0 where
  pub own : Transfer
  pub here : slice_get d.transfers t ≡ Some own
  pub sort : own.sort ≡ sorts.Request
  pub held : own.released ≡ false
  pub place : 32 * own.first ≡ a

request_sort : (s : Sort) → is_request s ≡ true → s ≡ sorts.Request
request_sort sorts.Request is = refl
request_sort _ is = absurd (false≢true is)

setup_of : (d : DriverContent) (a t : ℕ) (y : Transfer) → slice_get d.transfers t ≡ Some y → is_setup_at a y ≡ true → IsSetup d a t
setup_of d a t y here is =
    let one = and_both (is_request y.sort) (not y.released && 32 * y.first == a) is in
    let two = and_both (not y.released) (32 * y.first == a) one.1 in
    record { own = y; here = here; sort = request_sort y.sort one.0; held = not_on y.released two.0; place = eqb-true (32 * y.first) a two.1 }

passes_by : (s : Sort) (r b : Bool) → s ≡ sorts.Request → r ≡ false → b ≡ true → (is_request s && (not r && b)) ≡ true
passes_by s true b sort held place = absurd (true≢false held)
passes_by s false false sort held place = absurd (false≢true place)
passes_by s false true sort held place = ap (λ (k : Sort). is_request k && true) sort

setup_passes : (d : DriverContent) (a t : ℕ) (k : IsSetup d a t) → is_setup_at a k.own ≡ true
setup_passes d a t k = passes_by k.own.sort k.own.released (32 * k.own.first == a) k.sort k.held (eq-eqb (32 * k.own.first) a k.place)

pub setup_is : (d : DriverContent) (a t : ℕ) → setup_at d a ≡ Some t → IsSetup d a t
setup_is d a t is = let f = first_is (is_setup_at a) d.transfers t is in setup_of d a t f.one f.here f.passes

pub found_setup : (d : DriverContent) (a t : ℕ) → IsSetup d a t → ((k : ℕ) → IsSetup d a k → k ≡ t) → setup_at d a ≡ Some t
found_setup d a t k only =
    only_by (is_setup_at a) d.transfers t k.own (setup_at d a) refl k.here (setup_passes d a t k) (λ i z here passes. only i (setup_of d a i z here passes))

pub no_setup : (d : DriverContent) (a : ℕ) → ((k : ℕ) → IsSetup d a k → ⊥) → setup_at d a ≡ None
no_setup d a none = nowhere_by (is_setup_at a) d.transfers (setup_at d a) refl (λ i z here passes. none i (setup_of d a i z here passes))
