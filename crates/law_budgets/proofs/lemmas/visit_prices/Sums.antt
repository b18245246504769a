-- Visits to different placed endpoints cost together no more than the load of their microframe.
use Rattle.std.proofs.Common.{◌≡◌, ◌≢◌, ℕ, zero, suc, ◌+◌, ◌-◌, ◌*◌, ◌/◌, ◌%◌, ◌≤◌, Bool, true, false, List, [], ◌∷◌, slice_get, Some, refl, ap, sym, subst, ◌∙◌, arith}
use Rattle.std.specs.Prelude.{sum_by, filter, not, nat_eq, length, ◌&&◌, if◌then◌else◌}
use Rattle.std.specs.List.{AllByRecursion}
use Rattle.std.proofs.lemmas.List.Filters.{sum_by-filter_both}
use Rattle.std.proofs.lemmas.List.Sums.{sum_by-cons}
use Rattle.std.proofs.Math.Nat.{mul-le-mul_right}
use Rattle.law_common.proofs.Numbers.{not_its, its_own}
use Rattle.usb_base.specs.declared.packets.Speed.{Speed}
use Rattle.usb_base.specs.declared.packets.Speed.TheVariants.{High}
use Rattle.bandwidth.specs.declared.placements.Want.{Want}
use Rattle.bandwidth.specs.declared.placements.Placement.{Placement}
use Rattle.bandwidth.specs.declared.placements.Placed.{Placed}
use Rattle.bandwidth.specs.Placements.{has, is_classic, first_in}
use Rattle.bandwidth.specs.Sums.{is_active, price, sent_bytes, start_bytes, cost_in, cost_at, load}
use Rattle.law_budgets.specs.visit_prices.Prices.{Costs}
use Rattle.law_budgets.specs.visit_prices.Spent.{Visit, IsVisit, IsAmong, AreApart, most_in, largest, total, spent}

-- ---- one visit

total_most : (c : ℕ) (ps : List ℕ) → AllByRecursion (λ price. price ≤ c) ps → total ps ≤ length ps * c
total_most c [] h = omega arith
total_most c (p ∷ ps) h =
    let rest : total ps ≤ length ps * c = total_most c ps h.1 in
    let many : length (p ∷ ps) ≡ length ps + 1 = omega arith in
    let more : (length ps + 1) * c ≡ length ps * c + c = omega arith in
    let all : length (p ∷ ps) * c ≡ length ps * c + c = ap (λ n. n * c) many ∙ more in
    let first : p ≤ c = h.0 in
    omega (arith, rest, all, first, sum_by-cons (λ (price : ℕ). price) p ps)

costs_most : (n c : ℕ) (ps : List ℕ) → Costs n c ps → total ps ≤ n * c
costs_most n c ps h = omega (arith, total_most c ps h.each, mul-le-mul_right c h.few)

high_bytes : (w : Want) (part : ℕ) → w.speed ≡ High → sent_bytes w part ≡ w.max
high_bytes w part e = ap (λ (s : Speed). if is_classic s then start_bytes w.kind w.dir w.max part else w.max) e

cost_of : (b : Bool) (w : Want) (p : Placement) (m : ℕ) → w.speed ≡ High → has p.smask m ≡ b → (if b then w.multi else 0) * largest w ≤ cost_in w p m
cost_of true w p m e is =
    let same : cost_in w p m ≡ price w (sent_bytes w (m - first_in p.smask)) = rw is refl in
    let whole : price w (sent_bytes w (m - first_in p.smask)) ≡ w.multi * largest w = ap (price w) (high_bytes w (m - first_in p.smask) e) in
    let all : cost_in w p m ≡ w.multi * largest w = same ∙ whole in
    omega (arith, all)
cost_of false w p m e is = omega arith

active_cost : (a : Bool) (x : Placed) (u : ℕ) → x.want.speed ≡ High → is_active x.placement (u / 8) ≡ a → (if a && has x.placement.smask (u % 8) then x.want.multi else 0) * largest x.want ≤ cost_at u x
active_cost true x u e is =
    let same : cost_at u x ≡ cost_in x.want x.placement (u % 8) = ap (λ (b : Bool). if b then cost_in x.want x.placement (u % 8) else 0) is in
    omega (arith, same, cost_of (has x.placement.smask (u % 8)) x.want x.placement (u % 8) e refl)
active_cost false x u e is = omega arith

pub placed_cost : (x : Placed) (u : ℕ) → x.want.speed ≡ High → most_in x u * largest x.want ≤ cost_at u x
placed_cost x u high = active_cost (is_active x.placement (u / 8)) x u high refl

visit_most : (u : ℕ) (v : Visit) → IsVisit u v → total v.prices ≤ cost_at u v.of
visit_most u v h =
    omega (
      arith,
      costs_most (most_in v.of u) (largest v.of.want) v.prices h.costs,
      active_cost (is_active v.of.placement (u / 8)) v.of u h.speed refl,
    )

-- ---- different ones of a list

-- without what has the id of x
abbrev pub others : Placed → List Placed → List Placed
others x ys = filter (λ y. not (nat_eq y.want.id x.want.id)) ys

others_less : (f : Placed → ℕ) (x : Placed) (ys : List Placed) → sum_by f (others x ys) ≤ sum_by f ys
others_less f x ys =
    omega (arith, sum_by-filter_both (λ y. not (nat_eq y.want.id x.want.id)) (λ y. not (not (nat_eq y.want.id x.want.id))) (λ y. refl) f ys)

dropped : (f : Placed → ℕ) (b : Bool) (y : Placed) (ys zs : List Placed) (n : ℕ) → n + sum_by f zs ≤ sum_by f ys → n + sum_by f (if b then y ∷ zs else zs) ≤ f y + sum_by f ys
dropped f true y ys zs n h = omega (arith, h, sum_by-cons f y zs)
dropped f false y ys zs n h = omega (arith, h)

-- what it adds, and what the others do
pub taken_out : (f : Placed → ℕ) (x : Placed) (ys : List Placed) (i : ℕ) → slice_get ys i ≡ Some x
    → f x + sum_by f (others x ys) ≤ sum_by f ys
taken_out f x [] i at = absurd (cc)
taken_out f x (y ∷ ys) zero at =
    let same : y ≡ x = cc in
    subst (λ (z : Placed). f x + sum_by f (others x (z ∷ ys)) ≤ sum_by f (z ∷ ys)) (sym same)
    (let gone : sum_by f (others x (x ∷ ys)) ≡ sum_by f (others x ys) = ap (λ (b : Bool). sum_by f (if b then x ∷ others x ys else others x ys)) (its_own x.want.id) in
    omega (arith, gone, others_less f x ys, sum_by-cons f x ys))
taken_out f x (y ∷ ys) (suc i) at =
    let rest : f x + sum_by f (others x ys) ≤ sum_by f ys = taken_out f x ys i at in
    let all : f x + sum_by f (others x (y ∷ ys)) ≤ f y + sum_by f ys = dropped f (not (nat_eq y.want.id x.want.id)) y ys (others x ys) (f x) rest in
    omega (arith, all, sum_by-cons f y ys)

there_again : (b : Bool) (y z : Placed) (zs : List Placed) (i : ℕ) → slice_get zs i ≡ Some z → IsAmong (if b then y ∷ zs else zs) z
there_again true y z zs i at = record { place = suc i; there = at }
there_again false y z zs i at = record { place = i; there = at }

pub stays : (x z : Placed) (ys : List Placed) (i : ℕ) → z.want.id ≢ x.want.id → slice_get ys i ≡ Some z → IsAmong (others x ys) z
stays x z [] i apart at = absurd (cc)
stays x z (y ∷ ys) zero apart at =
    let same : y ≡ z = cc in
    subst (λ (w : Placed). IsAmong (others x (w ∷ ys)) z) (sym same)
    (subst (λ (b : Bool). IsAmong (if b then z ∷ others x ys else others x ys) z) (sym (not_its z.want.id x.want.id apart)) (record { place = 0; there = refl }))
stays x z (y ∷ ys) (suc i) apart at =
    let rest = stays x z ys i apart at in there_again (not (nat_eq y.want.id x.want.id)) y z (others x ys) rest.place rest.there

all_stay : (x : Placed) (ys : List Placed) (vs : List Visit) → AllByRecursion (λ w. w.of.want.id ≢ x.want.id) vs → AllByRecursion (λ v. IsAmong ys v.of) vs → AllByRecursion (λ v. IsAmong (others x ys) v.of) vs
all_stay x ys [] apart there = tt
all_stay x ys (v ∷ vs) apart there = (stays x v.of ys there.0.place apart.0 there.0.there, all_stay x ys vs apart.1 there.1)

-- ---- all visits

abbrev Fine : ℕ → Visit → Type 0
Fine u v = IsVisit u v

pub spent_most : (u : ℕ) (placed : List Placed) (vs : List Visit) → AllByRecursion (IsVisit u) vs → AllByRecursion (λ v. IsAmong placed v.of) vs → AreApart vs → spent vs ≤ load placed u
spent_most u placed [] good there apart = omega arith
spent_most u placed (v ∷ vs) good there apart =
    let x = v.of in
    let rest : spent vs ≤ sum_by (cost_at u) (others x placed) = spent_most u (others x placed) vs good.1 (all_stay x placed vs apart.0 there.1) apart.1 in
    let first : total v.prices ≤ cost_at u x = visit_most u v good.0 in
    let sum : spent (v ∷ vs) ≡ total v.prices + spent vs = sum_by-cons (λ (w : Visit). total w.prices) v vs in
    let whole : cost_at u x + sum_by (cost_at u) (others x placed) ≤ load placed u = taken_out (cost_at u) x placed there.0.place there.0.there in
    omega (arith, rest, first, sum, whole)
