-- What the visits of one microframe cost together, each charged event by event (USB 2.0, 5.11.3; EHCI 1.0, 4.6 and 4.10).
--     PaidVisit                 a visit to a placed endpoint, and what was paid in it
--     IsPaidIn u v              no more was paid than the placement has for microframe u
--     ArePaidApart vs           no two of the visits are of one endpoint
--     ArePaidOf placed vs       the visits are of placed endpoints, no two of one
--     paid_in vs                all that was paid in them
--     IsLeftAfter placed p vs   of the microframe there is left what these visits didn't cost
use Rattle.std.specs.Prelude.{◌≡◌, ◌≢◌, ℕ, ◌+◌, ◌/◌, ◌<◌, ◌≤◌, true, false, Some, List, [], ◌∷◌, sum_by}
use Rattle.std.specs.List.{AllByRecursion}
use Rattle.bandwidth.specs.declared.placements.Want.{Want}
use Rattle.bandwidth.specs.declared.placements.Placed.{Placed}
use Rattle.bandwidth.specs.Sums.{Fits, is_active, cost_at, load}
use Rattle.periodic_walk.specs.declared.state.Hand.{Hand}
use Rattle.periodic_walk.specs.Place.{FramePlace}
use Rattle.claims_world.specs.InTime.{is_late}
use Rattle.law_budgets.specs.visit_prices.Spent.{IsAmong, largest}
use Rattle.law_microframes.specs.time.Charges.{IsInHandOf, IsHeldFor}

pub record PaidVisit : Type 0 where
  pub of : Placed
  pub paid : ℕ

pub record IsPaidIn (u : ℕ) (v : PaidVisit) : Type 0 where
  pub within : v.paid ≤ cost_at u v.of

abbrev pub ArePaidApart : List PaidVisit → Type 0
ArePaidApart [] = Unit {0}
ArePaidApart (v ∷ vs) = AllByRecursion (λ w. w.of.want.id ≢ v.of.want.id) vs × ArePaidApart vs

pub record ArePaidOf (placed : List Placed) (vs : List PaidVisit) : Type 0 where
  pub among : AllByRecursion (λ v. IsAmong placed v.of) vs
  pub apart : ArePaidApart vs

abbrev pub paid_in : List PaidVisit → ℕ
paid_in vs = sum_by (λ v. v.paid) vs

pub record IsLeftAfter (placed : List Placed) (p : FramePlace) (vs : List PaidVisit) : Type 0 where
  pub fits : Fits placed
  pub small : p.walk.index < 8192
  pub of : ArePaidOf placed vs
  pub paid : AllByRecursion (IsPaidIn p.walk.index) vs
  pub left : p.walk.left + paid_in vs ≡ 125000000

-- ---- the laws

-- a visit in a frame of the placement is paid so, at each of its events
abbrev pub HeldArePaid : Type 0
HeldArePaid = (x : Placed) (u : ℕ) (hand : Hand) (paid : ℕ) → IsHeldFor x u hand paid → is_active x.placement (u / 8) ≡ true → IsPaidIn u (record { of = x; paid = paid })

-- all visits of a microframe cost no more than its load
abbrev pub PaidIsWithinLoad : Type 0
PaidIsWithinLoad = (placed : List Placed) (u : ℕ) (vs : List PaidVisit) → ArePaidOf placed vs → AllByRecursion (IsPaidIn u) vs → paid_in vs ≤ load placed u

-- where what is placed fits they leave a fifth of the microframe
abbrev pub PaidLeavesAFifth : Type 0
PaidLeavesAFifth = (placed : List Placed) (u : ℕ) (vs : List PaidVisit) → Fits placed → u < 8192 → ArePaidOf placed vs → AllByRecursion (IsPaidIn u) vs → paid_in vs ≤ 100000000

-- no transaction of a packet of up to 1,024 bytes costs more than 21 microseconds
abbrev pub TransactionsAreShort : Type 0
TransactionsAreShort = (w : Want) → w.max ≤ 1024 → largest w ≤ 21000000

-- so none is skipped for want of time, whatever was visited before in the microframe
abbrev pub PaidVisitsAreInTime : Type 0
PaidVisitsAreInTime = (placed : List Placed) (vs : List PaidVisit) (x : Placed) (p : FramePlace) (hand : Hand) → IsLeftAfter placed p vs → p.walk.hand ≡ Some hand → IsInHandOf x p.walk.index hand → x.want.max ≤ 1024
    → is_late p ≡ false
