-- What a plan answers.
--     Admissions              what is placed, in the order of admission, how many may be, and what the placements follow
--     keeps P w p             the placement p for the want w keeps every budget beside P
--     peak P w p              the greatest microframe sum over the microframes of p, with it included
--     best rules P w          the allowed placement that keeps every budget with the least peak, the first of these
--     answer a w, admitted    the answer to a want, and the plan after it
--     is_placed, translator_in    an id is placed; the number of its translator
--     without                 the plan without an id
use Rattle.std.specs.Prelude.{◌≡◌, ◌≢◌, ℕ, ◌/◌, ◌%◌, ◌<◌, ◌≤◌, max, zero, suc, Bool, ◌&&◌, ◌||◌, not, nat_eq, nat_lt, if◌then◌else◌}
use Rattle.std.specs.Prelude.{List, [], ◌∷◌, ◌++◌, length, filter, slice_get, AllPairs, Option, Some, None, Result, Ok, Err}
use Rattle.std.specs.List.{list_any}
use Rattle.bandwidth.specs.declared.placements.Want.{Want}
use Rattle.bandwidth.specs.declared.placements.Placement.{Placement}
use Rattle.bandwidth.specs.declared.placements.Placed.{Placed}
use Rattle.bandwidth.specs.declared.placements.Refused.{Refused}
use Rattle.bandwidth.specs.declared.placements.Refused.TheVariants.{NoPlacement, Room}
use Rattle.usb_base.specs.declared.rules.Rules.{Rules}
use Rattle.bandwidth.specs.Placements.{has, allowed_by}
use Rattle.bandwidth.specs.Sums.{is_active, load, translator_of, Fits, fits}

pub record Admissions : Type 0 where
  pub placed : List Placed
  pub room : ℕ
  pub rules : Rules

-- with one more
abbrev pub joined : List Placed → Want → Placement → List Placed
joined placed w p = placed ++ record { want = w; placement = p } ∷ []

abbrev pub keeps : List Placed → Want → Placement → Bool
keeps placed w p = fits (joined placed w p)

-- the placement has a transaction in microframe u
abbrev pub is_own : Placement → ℕ → Bool
is_own p u = is_active p (u / 8) && (has p.smask (u % 8) || has p.cmask (u % 8))

-- the greatest of f 0 to f (n - 1), 0 for none
unfoldable pub greatest : ℕ → (ℕ → ℕ) → ℕ
greatest zero f = 0
greatest (suc n) f = max (greatest n f) (f n)

unfoldable pub peak : List Placed → Want → Placement → ℕ
peak placed w p = greatest 8192 (λ u. if is_own p u then load (joined placed w p) u else 0)

-- the one of x and the elements with the least number, the earlier where two are equal
unfoldable pub least_from : {A : Type 0} → (A → ℕ) → A → List A → A
least_from number x [] = x
least_from number x (y ∷ ys) = least_from number (if nat_lt (number y) (number x) then y else x) ys

-- the first of the elements with the least number
unfoldable pub least_by : {A : Type 0} → (A → ℕ) → List A → Option A
least_by number [] = None
least_by number (x ∷ xs) = Some (least_from number x xs)

unfoldable pub best : Rules → List Placed → Want → Option Placement
best rules placed w = least_by (peak placed w) (filter (keeps placed w) (allowed_by rules w))

abbrev pub chosen : Option Placement → Result Placement Refused
chosen None = Err NoPlacement
chosen (Some p) = Ok p

abbrev pub answer : Admissions → Want → Result Placement Refused
answer a w = if nat_lt (length a.placed) a.room then chosen (best a.rules a.placed w) else Err Room

-- a refusal changes nothing
abbrev pub admitted : Admissions → Want → Result Placement Refused → Admissions
admitted a w (Ok p) = record a { placed = joined a.placed w p }
admitted a w (Err _) = a

-- no two have one id
abbrev pub AreDistinct : List Placed → Type 0
AreDistinct placed = AllPairs (λ x y. x.want.id ≢ y.want.id) placed

abbrev pub is_placed : Admissions → ℕ → Bool
is_placed a id = list_any (λ x. nat_eq x.want.id id) a.placed

-- the number of the translator of the one with this id, if it is placed and has one
abbrev pub translator_in : List Placed → ℕ → Option ℕ
translator_in [] id = None
translator_in (x ∷ xs) id = if nat_eq x.want.id id then translator_of x.want else translator_in xs id

abbrev pub without : Admissions → ℕ → Admissions
without a id = record a { placed = filter (λ x. not (nat_eq x.want.id id)) a.placed }

-- among the allowed placements that keep every budget none has a lesser peak, and no earlier one an equal peak
pub record IsBest (rules : Rules) (placed : List Placed) (w : Want) (p : Placement) : Type 0 where
  pub place : ℕ
  pub at : slice_get (allowed_by rules w) place ≡ Some p
  pub fits : Fits (joined placed w p)
  pub least :
      (i : ℕ) (q : Placement) → slice_get (allowed_by rules w) i ≡ Some q → Fits (joined placed w q)
      → peak placed w p ≤ peak placed w q
  pub first :
      (i : ℕ) (q : Placement) → i < place → slice_get (allowed_by rules w) i ≡ Some q → Fits (joined placed w q)
      → peak placed w p < peak placed w q

-- no allowed placement keeps every budget
abbrev pub HasNone : Rules → List Placed → Want → Type 0
HasNone rules placed w = (i : ℕ) (p : Placement) → slice_get (allowed_by rules w) i ≡ Some p → Fits (joined placed w p) → ⊥
