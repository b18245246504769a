-- A visit costs at most its placement; visits to different endpoints together at most the load, so there is time for each.
use Rattle.std.proofs.Common.{◌≡◌, ℕ, zero, suc, ◌+◌, ◌*◌, ◌/◌, ◌%◌, ◌<◌, ◌≤◌, true, false, List, ◌∷◌, refl, ap, sym, subst, ◌∙◌, arith}
use Rattle.std.specs.Prelude.{replicate, length}
use Rattle.std.specs.List.{AllByRecursion}
use Rattle.std.proofs.lemmas.List.Sums.{sum_by-cons}
use Rattle.usb_base.specs.Cost.{bus_time}
use Rattle.usb_base.specs.declared.packets.Dir.TheVariants as directions
use Rattle.usb_base.specs.declared.packets.EpKind.{EpKind}
use Rattle.usb_base.specs.declared.packets.EpKind.TheVariants.{Interrupt, Iso}
use Rattle.usb_base.specs.declared.packets.Reply.{Reply}
use Rattle.usb_base.specs.declared.packets.Speed.TheVariants.{High}
use Rattle.bandwidth.specs.declared.placements.Placed.{Placed}
use Rattle.bandwidth.specs.Placements.{has}
use Rattle.bandwidth.specs.Sums.{Fits, is_active, load}
use Rattle.hc_iso.specs.declared.held.HeldItd.{HeldItd}
use Rattle.periodic_walk.specs.declared.state.HeldQueue.{HeldQueue}
use Rattle.periodic_walk.specs.Place.{FramePlace}
use Rattle.law_budgets.specs.visit_prices.Prices.{prices, Costs}
use Rattle.law_budgets.specs.visit_prices.Spent.{MeetsHead, MeetsDescriptor, Visit, visit_from, IsVisit, AreOfPlaced, ComesAfter, most_in, largest, total, spent}
use Rattle.law_budgets.specs.visit_prices.Time.{late_in, ending}
use Rattle.law_budgets.proofs.lemmas.visit_prices.Sums.{spent_most}
use Rattle.law_budgets.proofs.lemmas.visit_prices.Times.{never_late, all_paid}
use Rattle.law_budgets.proofs.lemmas.visit_prices.Queues.{same_dir, QueueVisit, queue_begins, queue_costs, queue_keeps, queue_prompt}
use Rattle.law_budgets.proofs.lemmas.visit_prices.Itds.{same_iso, ItdVisit, itd_begins, itd_costs, itd_keeps, itd_prompt}

queue_price : (x : Placed) → x.want.kind ≡ Interrupt → bus_time High Interrupt directions.In x.want.max ≡ largest x.want
queue_price x e = sym (same_dir x.want.dir x.want.max) ∙ ap (λ (k : EpKind). bus_time High k x.want.dir x.want.max) (sym e)

itd_price : (x : Placed) → x.want.kind ≡ Iso → bus_time High Iso directions.In x.want.max ≡ largest x.want
itd_price x e = sym (same_iso x.want.dir x.want.max) ∙ ap (λ (k : EpKind). bus_time High k x.want.dir x.want.max) (sym e)

all_of_it : (x : Placed) (u : ℕ) → is_active x.placement (u / 8) ≡ true → has x.placement.smask (u % 8) ≡ true → most_in x u ≡ x.want.multi
all_of_it x u on own = rw (on, own) refl

-- ---- a visit that begins

queue_met : (x : Placed) (p : FramePlace) (h : HeldQueue) → MeetsHead x p h → QueueVisit p.walk.index x.want.max x.want.multi (most_in x p.walk.index) p
queue_met x p h met =
    queue_begins x.want.max x.want.multi (most_in x p.walk.index) p h met.hand (record { high = met.head.high; max = met.head.max; multi = met.head.multi; pid = met.begun.pid })
    (omega (arith, met.begun.few, met.head.multi)) met.begun.unsettled met.begun.none met.begun.active
    (λ own.
    let all = all_of_it x p.walk.index met.frame (subst (λ mask. has mask (p.walk.index % 8) ≡ true) met.head.smask own) in
    (omega (arith, all, met.head.multi), omega (arith, all)))

itd_met : (x : Placed) (p : FramePlace) (h : HeldItd) → MeetsDescriptor x p h → ItdVisit x.want.max (most_in x p.walk.index) p
itd_met x p h met =
    itd_begins x.want.max (most_in x p.walk.index) p h met.hand met.descriptor.max met.begun.going met.begun.some (omega (arith, met.begun.few, all_of_it x p.walk.index met.frame met.own))

pub queue_visits_cost_their_placement : (x : Placed) (p : FramePlace) (h : HeldQueue) (rs : List Reply) → MeetsHead x p h → IsVisit p.walk.index (visit_from x p rs)
queue_visits_cost_their_placement x p h rs met = record {
  speed = met.head.speed;
  costs =
      subst (λ c. Costs (most_in x p.walk.index) c (prices p rs)) (queue_price x met.head.kind)
      (queue_costs p.walk.index x.want.max x.want.multi (most_in x p.walk.index) p rs (queue_met x p h met));
}

pub descriptor_visits_cost_their_placement : (x : Placed) (p : FramePlace) (h : HeldItd) (rs : List Reply) → MeetsDescriptor x p h → IsVisit p.walk.index (visit_from x p rs)
descriptor_visits_cost_their_placement x p h rs met = record {
  speed = met.descriptor.speed;
  costs =
      subst (λ c. Costs (most_in x p.walk.index) c (prices p rs)) (itd_price x met.descriptor.kind)
      (itd_costs x.want.max (most_in x p.walk.index) p rs (itd_met x p h met));
}

-- ---- all visits

pub visits_cost_at_most_the_load : (placed : List Placed) (u : ℕ) (vs : List Visit) → AreOfPlaced placed vs → AllByRecursion (IsVisit u) vs → spent vs ≤ load placed u
visits_cost_at_most_the_load placed u vs of good = spent_most u placed vs good of.among of.apart

pub visits_leave_a_fifth : (placed : List Placed) (u : ℕ) (vs : List Visit) → Fits placed → u < 8192 → AreOfPlaced placed vs → AllByRecursion (IsVisit u) vs → spent vs ≤ 100000000
visits_leave_a_fifth placed u vs fits small of good = omega (arith, visits_cost_at_most_the_load placed u vs of good, fits.loads u small)

-- ---- there is time for one more: for one that costs all it may

same_each : (n c : ℕ) → AllByRecursion (λ price. price ≤ c) (replicate n c)
same_each zero c = tt
same_each (suc n) c = (omega arith, same_each n c)

same_length : (n c : ℕ) → length (replicate n c) ≡ n
same_length zero c = refl
same_length (suc n) c = let e = same_length n c in omega (arith, e)

same_total : (n c : ℕ) → total (replicate n c) ≡ n * c
same_total zero c = omega arith
same_total (suc n) c =
    let e = same_total n c in
    let more : (n + 1) * c ≡ n * c + c = omega arith in
    let is : suc n ≡ n + 1 = omega arith in
    let all : suc n * c ≡ n * c + c = ap (λ k. k * c) is ∙ more in
    omega (arith, e, all, sum_by-cons (λ (price : ℕ). price) c (replicate n c))

whole : Placed → ℕ → Visit
whole x u = record { of = x; prices = replicate (most_in x u) (largest x.want) }

time_left : (placed : List Placed) (u : ℕ) (vs : List Visit) (x : Placed) (p : FramePlace) (rs : List Reply) → x.want.speed ≡ High → ComesAfter placed vs x p rs → p.walk.index ≡ u → most_in x u * largest x.want ≤ p.walk.left
unfolding whole
time_left placed u vs x p rs speed after at =
    let n = most_in x u in
    let c = largest x.want in
    let w : Visit = record { of = x; prices = replicate n c } in
    let good : IsVisit u w = record { speed = speed; costs = record { few = omega (arith, same_length n c); each = same_each n c } } in
    let those : AllByRecursion (IsVisit u) vs = subst (λ k. AllByRecursion (IsVisit k) vs) at after.visits in
    let small : u < 8192 = subst (λ k. k < 8192) at after.small in
    let all : spent (w ∷ vs) ≤ 100000000 = visits_leave_a_fifth placed u (w ∷ vs) after.fits small (record { among = after.of.among; apart = after.of.apart }) (good, those) in
    omega (arith, all, sum_by-cons (λ (v : Visit). total v.prices) w vs, same_total n c, after.left)

pub queue_visits_are_in_time : (placed : List Placed) (vs : List Visit) (x : Placed) (p : FramePlace) (h : HeldQueue) (rs : List Reply) → ComesAfter placed vs x p rs → MeetsHead x p h → late_in p rs ≡ false
queue_visits_are_in_time placed vs x p h rs after met =
    never_late (QueueVisit p.walk.index x.want.max x.want.multi) (bus_time High Interrupt directions.In x.want.max) (queue_prompt p.walk.index x.want.max x.want.multi) (most_in x p.walk.index) p rs (queue_met x p h met)
    (subst (λ c. most_in x p.walk.index * c ≤ p.walk.left) (sym (queue_price x met.head.kind)) (time_left placed p.walk.index vs x p rs met.head.speed after refl))

pub descriptor_visits_are_in_time : (placed : List Placed) (vs : List Visit) (x : Placed) (p : FramePlace) (h : HeldItd) (rs : List Reply) → ComesAfter placed vs x p rs → MeetsDescriptor x p h → late_in p rs ≡ false
descriptor_visits_are_in_time placed vs x p h rs after met =
    never_late (ItdVisit x.want.max) (bus_time High Iso directions.In x.want.max) (itd_prompt x.want.max) (most_in x p.walk.index) p rs (itd_met x p h met)
    (subst (λ c. most_in x p.walk.index * c ≤ p.walk.left) (sym (itd_price x met.descriptor.kind)) (time_left placed p.walk.index vs x p rs met.descriptor.speed after refl))

-- ---- the time that a visit takes

pub queue_visits_take_their_prices : (x : Placed) (p : FramePlace) (h : HeldQueue) (rs : List Reply) → MeetsHead x p h → total (prices p rs) + (ending p rs).walk.left ≡ p.walk.left
queue_visits_take_their_prices x p h rs met =
    all_paid (QueueVisit p.walk.index x.want.max x.want.multi) (bus_time High Interrupt directions.In x.want.max) (queue_keeps p.walk.index x.want.max x.want.multi) (most_in x p.walk.index) p rs (queue_met x p h met)

pub descriptor_visits_take_their_prices : (x : Placed) (p : FramePlace) (h : HeldItd) (rs : List Reply) → MeetsDescriptor x p h → total (prices p rs) + (ending p rs).walk.left ≡ p.walk.left
descriptor_visits_take_their_prices x p h rs met =
    all_paid (ItdVisit x.want.max) (bus_time High Iso directions.In x.want.max) (itd_keeps x.want.max) (most_in x p.walk.index) p rs (itd_met x p h met)
