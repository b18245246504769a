-- Visits to different placed endpoints, each charged event by event, cost together no more than the load of their microframe (USB 2.0, 5.11.3).
use Rattle.std.proofs.Common.{◌≡◌, ℕ, ◌+◌, ◌/◌, ◌<◌, ◌≤◌, true, List, [], ◌∷◌, arith, false, Some}
use Rattle.std.specs.Prelude.{◌≢◌, sum_by}
use Rattle.std.specs.List.{AllByRecursion}
use Rattle.std.proofs.lemmas.List.Sums.{sum_by-cons}
use Rattle.usb_base.specs.Cost.{bus_time}
use Rattle.usb_base.specs.declared.packets.Dir.{Dir}
use Rattle.usb_base.specs.declared.packets.Dir.TheVariants as directions
use Rattle.usb_base.specs.declared.packets.EpKind.{EpKind}
use Rattle.usb_base.specs.declared.packets.EpKind.TheVariants as kinds
use Rattle.usb_base.specs.declared.packets.Speed.TheVariants.{High}
use Rattle.bandwidth.specs.declared.placements.Want.{Want}
use Rattle.bandwidth.specs.declared.placements.Placed.{Placed}
use Rattle.bandwidth.specs.Sums.{Fits, is_active, cost_at, load}
use Rattle.periodic_walk.specs.declared.state.Hand.{Hand}
use Rattle.periodic_walk.specs.declared.state.Hand.TheVariants as hands
use Rattle.periodic_walk.specs.Place.{FramePlace}
use Rattle.claims_world.specs.InTime.{is_late}
use Rattle.law_budgets.specs.visit_prices.Spent.{IsAmong, largest}
use Rattle.law_budgets.proofs.lemmas.visit_prices.Sums.{others, taken_out, stays, placed_cost}
use Rattle.law_microframes.specs.time.Charges.{IsInHandOf, IsHeldFor}
use Rattle.law_microframes.specs.time.ChargeLoads.{PaidVisit, IsPaidIn, ArePaidApart, ArePaidOf, paid_in, IsLeftAfter}
use Rattle.law_microframes.proofs.lemmas.time.ChargeSums.{charges_are_placed}
use Rattle.law_microframes.proofs.lemmas.time.ChargeEvents.{enough_time_skips_nothing}

-- ---- a visit

speed_of : (x : Placed) (u : ℕ) (hand : Hand) → IsInHandOf x u hand → x.want.speed ≡ High
speed_of x u (hands.Queue h) held = held.head.speed
speed_of x u (hands.Itd h) held = held.descriptor.speed
speed_of x u (hands.Sitd h) held = absurd held

pub held_placed : (x : Placed) (u : ℕ) (hand : Hand) (paid : ℕ) → IsHeldFor x u hand paid → is_active x.placement (u / 8) ≡ true
    → paid ≤ cost_at u x
held_placed x u hand paid held on =
    let few = charges_are_placed x u hand paid held on in
    let most = placed_cost x u (speed_of x u hand held.of) in
    omega (arith, few, most)

pub held_are_paid : (x : Placed) (u : ℕ) (hand : Hand) (paid : ℕ) → IsHeldFor x u hand paid → is_active x.placement (u / 8) ≡ true
    → IsPaidIn u (record { of = x; paid = paid })
held_are_paid x u hand paid held on = record { within = held_placed x u hand paid held on }

-- ---- together

others_stay : (x : Placed) (ys : List Placed) (vs : List PaidVisit) → AllByRecursion (λ w. w.of.want.id ≢ x.want.id) vs
    → AllByRecursion (λ v. IsAmong ys v.of) vs
    → AllByRecursion (λ v. IsAmong (others x ys) v.of) vs
others_stay x ys [] apart there = tt
others_stay x ys (v ∷ vs) apart there = (stays x v.of ys there.0.place apart.0 there.0.there, others_stay x ys vs apart.1 there.1)

paid_most : (u : ℕ) (placed : List Placed) (vs : List PaidVisit) → AllByRecursion (IsPaidIn u) vs
    → AllByRecursion (λ v. IsAmong placed v.of) vs → ArePaidApart vs → paid_in vs ≤ load placed u
paid_most u placed [] paid there apart = omega arith
paid_most u placed (v ∷ vs) paid there apart =
    let x = v.of in
    let rest : paid_in vs ≤ sum_by (cost_at u) (others x placed) =
    paid_most u (others x placed) vs paid.1 (others_stay x placed vs apart.0 there.1) apart.1 in
    let first : v.paid ≤ cost_at u x = paid.0.within in
    let sum : paid_in (v ∷ vs) ≡ v.paid + paid_in vs = sum_by-cons (λ (w : PaidVisit). w.paid) v vs in
    let whole : cost_at u x + sum_by (cost_at u) (others x placed) ≤ load placed u =
    taken_out (cost_at u) x placed there.0.place there.0.there in
    omega (arith, rest, first, sum, whole)

pub paid_is_within_load : (placed : List Placed) (u : ℕ) (vs : List PaidVisit) → ArePaidOf placed vs → AllByRecursion (IsPaidIn u) vs → paid_in vs ≤ load placed u
paid_is_within_load placed u vs of paid = paid_most u placed vs paid of.among of.apart

pub paid_leaves_a_fifth : (placed : List Placed) (u : ℕ) (vs : List PaidVisit) → Fits placed → u < 8192 → ArePaidOf placed vs → AllByRecursion (IsPaidIn u) vs → paid_in vs ≤ 100000000
paid_leaves_a_fifth placed u vs fits small of paid =
    let few = paid_is_within_load placed u vs of paid in
    let most = fits.loads u small in
    omega (arith, few, most)

-- ---- in time

pub bus_short : (k : EpKind) (d : Dir) (n : ℕ) → n ≤ 1024 → bus_time High k d n ≤ 21000000
bus_short kinds.Control directions.In n few = omega (arith, few)
bus_short kinds.Control directions.Out n few = omega (arith, few)
bus_short kinds.Iso directions.In n few = omega (arith, few)
bus_short kinds.Iso directions.Out n few = omega (arith, few)
bus_short kinds.Bulk directions.In n few = omega (arith, few)
bus_short kinds.Bulk directions.Out n few = omega (arith, few)
bus_short kinds.Interrupt directions.In n few = omega (arith, few)
bus_short kinds.Interrupt directions.Out n few = omega (arith, few)

pub transactions_are_short : (w : Want) → w.max ≤ 1024 → largest w ≤ 21000000
transactions_are_short w few = bus_short w.kind w.dir w.max few

pub paid_visits_are_in_time : (placed : List Placed) (vs : List PaidVisit) (x : Placed) (p : FramePlace) (hand : Hand) → IsLeftAfter placed p vs → p.walk.hand ≡ Some hand → IsInHandOf x p.walk.index hand → x.want.max ≤ 1024
    → is_late p ≡ false
paid_visits_are_in_time placed vs x p hand is e held few =
    let most = paid_leaves_a_fifth placed p.walk.index vs is.fits is.small is.of is.paid in
    let one = transactions_are_short x.want few in
    enough_time_skips_nothing x p hand e held (omega (arith, most, one, is.left))
