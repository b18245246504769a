-- The visits of a frame's queue heads and descriptors are of descriptors_of_a_frame_are_different placed endpoints.
use Rattle.std.proofs.Common.{◌≡◌, ◌≢◌, ℕ, ◌<◌, ◌≤◌, Bool, true, false, cond, List, [], ◌∷◌, ◌++◌, slice_get, Some, refl, ap, sym, subst, ◌∙◌, arith}
use Rattle.std.specs.Prelude.{count_by, nat_eq, filter}
use Rattle.std.specs.List.{AllByRecursion}
use Rattle.std.proofs.lemmas.Bool.{false≢true, eq-eqb}
use Rattle.std.proofs.lemmas.Option.{same_Some}
use Rattle.law_common.proofs.Lists.{all_both}
use Rattle.law_budgets.proofs.Common.{one_more}
use Rattle.usb_base.specs.declared.packets.EpKind.{EpKind}
use Rattle.usb_base.specs.declared.packets.EpKind.TheVariants.{Interrupt}
use Rattle.bandwidth.specs.declared.placements.Placed.{Placed}
use Rattle.bandwidth.specs.Sums.{Fits, load}
use Rattle.drv_chains.specs.declared.members.Descriptor.{Descriptor}
use Rattle.drv_chains.specs.declared.members.QueueHead.{QueueHead}
use Rattle.drv_chains.specs.Chains.{descriptors_in}
use Rattle.drv_members.specs.Ranks.{is_called}
use Rattle.drv_members.specs.Members.{IsKept}
use Rattle.drv_members.proofs.Splits.{count_first}
use Rattle.drv_table.specs.declared.content.Endpoint.{Endpoint}
use Rattle.drv_table.specs.Kinds.{is_iso}
use Rattle.drv_table.specs.DriverContent.{DriverContent}
use Rattle.claims_driver.specs.DueMembers.{queues_of, AreDue, IsWaitingFor, HasOneEach}
use Rattle.law_budgets.specs.visit_prices.Spent.{Visit, IsVisit, IsAmong, AreApart, AreOfPlaced, spent}
use Rattle.law_budgets.proofs.lemmas.visit_prices.Joined.{visits_cost_at_most_the_load, visits_leave_a_fifth}
use Rattle.law_budgets.specs.frame_budget.Visited.{IsVisitOf, AreVisitsOf}
use Rattle.law_budgets.proofs.lemmas.frame_budget.Visited.{of_placed}
use Rattle.law_budgets.specs.iso_budget.Visited.{AreDifferent, IsDescriptorVisit, AreDescriptorVisits, AreVisits}

-- ---- lists

apart_both : (vs ws : List Visit) → AreApart vs → AreApart ws → AllByRecursion (λ v. AllByRecursion (λ w. w.of.want.id ≢ v.of.want.id) ws) vs → AreApart (vs ++ ws)
apart_both [] ws h k cross = k
apart_both (v ∷ vs) ws h k cross = (all_both (λ w. w.of.want.id ≢ v.of.want.id) vs ws h.0 cross.0, apart_both vs ws h.1 k cross.1)

-- ---- descriptors

among : (d : DriverContent) (f : ℕ) (ks : List Descriptor) (ws : List Visit) → AreDescriptorVisits d f ks ws → AllByRecursion (λ w. IsAmong d.periodic.plan.placed w.of) ws
among d f [] [] h = tt
among d f (k ∷ ks) (w ∷ ws) h = (record { place = h.0.due.counts.place; there = h.0.due.counts.there ∙ ap (λ (y : Placed). Some y) (sym h.0.of) }, among d f ks ws h.1)
among d f [] (w ∷ ws) h = absurd h
among d f (k ∷ ks) [] h = absurd h

number_of : (d : DriverContent) (f : ℕ) (k : Descriptor) (w : Visit) → (h : IsDescriptorVisit d f k w) → w.of.want.id ≡ h.due.number
number_of d f k w h = ap (λ (y : Placed). y.want.id) h.of

same_one : (d : DriverContent) (f : ℕ) (k l : Descriptor) (v w : Visit) → HasOneEach d → (h : IsDescriptorVisit d f k v) → (g : IsDescriptorVisit d f l w) → w.of.want.id ≡ v.of.want.id → l ≡ k
same_one d f k l v w each h g e =
    let numbers : g.due.number ≡ h.due.number = sym (number_of d f l w g) ∙ e ∙ number_of d f k v h in
    each h.due.number l k (subst (IsWaitingFor d l) numbers g.due.waiting) h.due.waiting (g.due.frame ∙ sym h.due.frame)

others : (d : DriverContent) (f : ℕ) (k : Descriptor) (v : Visit) → HasOneEach d → IsDescriptorVisit d f k v → (ls : List Descriptor) (ws : List Visit) → AllByRecursion (λ l. l ≢ k) ls → AreDescriptorVisits d f ls ws
    → AllByRecursion (λ w. w.of.want.id ≢ v.of.want.id) ws
others d f k v each h [] [] off g = tt
others d f k v each h (l ∷ ls) (w ∷ ws) off g = ((λ e. off.0 (same_one d f k l v w each h g.0 e)), others d f k v each h ls ws off.1 g.1)
others d f k v each h [] (w ∷ ws) off g = absurd g
others d f k v each h (l ∷ ls) [] off g = absurd g

apart : (d : DriverContent) (f : ℕ) (ks : List Descriptor) (ws : List Visit) → HasOneEach d → AreDifferent ks → AreDescriptorVisits d f ks ws → AreApart ws
apart d f [] [] each off h = tt
apart d f (k ∷ ks) (w ∷ ws) each off h = (others d f k w each h.0 ks ws off.0 h.1, apart d f ks ws each off.1 h.1)
apart d f [] (w ∷ ws) each off h = absurd h
apart d f (k ∷ ks) [] each off h = absurd h

-- ---- a queue head and a descriptor

not_both : (k : EpKind) → k ≡ Interrupt → is_iso k ≡ true → ⊥
not_both k is on = false≢true (sym (ap is_iso is) ∙ on)

two_kinds : (d : DriverContent) (f : ℕ) (q : QueueHead) (k : Descriptor) (v w : Visit) → (h : IsVisitOf d q v) → v.of.want.kind ≡ Interrupt → (g : IsDescriptorVisit d f k w) → w.of.want.id ≢ v.of.want.id
two_kinds d f q k v w h kind g = λ e.
    let numbers : g.due.number ≡ h.queue.number = sym (number_of d f k w g) ∙ e ∙ ap (λ (y : Placed). y.want.id) h.of in
    let same : g.due.endpoint ≡ h.queue.endpoint = same_Some g.due.endpoint h.queue.endpoint (sym g.due.here ∙ ap (slice_get d.endpoints) numbers ∙ h.queue.here) in
    not_both h.queue.endpoint.desc.kind (sym (ap (λ (y : Placed). y.want.kind) h.of) ∙ kind) (ap (λ (x : Endpoint). is_iso x.desc.kind) (sym same) ∙ g.due.isochronous)

beside : (d : DriverContent) (f : ℕ) (q : QueueHead) (v : Visit) → IsVisitOf d q v → v.of.want.kind ≡ Interrupt → (ks : List Descriptor) (ws : List Visit) → AreDescriptorVisits d f ks ws → AllByRecursion (λ w. w.of.want.id ≢ v.of.want.id) ws
beside d f q v h kind [] [] g = tt
beside d f q v h kind (k ∷ ks) (w ∷ ws) g = (two_kinds d f q k v w h kind g.0, beside d f q v h kind ks ws g.1)
beside d f q v h kind [] (w ∷ ws) g = absurd g
beside d f q v h kind (k ∷ ks) [] g = absurd g

cross : (d : DriverContent) (f : ℕ) (qs : List QueueHead) (vs : List Visit) (ks : List Descriptor) (ws : List Visit) → AreVisitsOf d qs vs → AllByRecursion (λ v. v.of.want.kind ≡ Interrupt) vs → AreDescriptorVisits d f ks ws
    → AllByRecursion (λ v. AllByRecursion (λ w. w.of.want.id ≢ v.of.want.id) ws) vs
cross d f [] [] ks ws h kinds g = tt
cross d f (q ∷ qs) (v ∷ vs) ks ws h kinds g = (beside d f q v h.0 kinds.0 ks ws g, cross d f qs vs ks ws h.1 kinds.1 g)
cross d f [] (v ∷ vs) ks ws h kinds g = absurd h
cross d f (q ∷ qs) [] ks ws h kinds g = absurd h

-- ---- all visits

pub all_placed : (d : DriverContent) (f : ℕ) (vs : List Visit) (ks : List Descriptor) (ws : List Visit) → AreDue d f → HasOneEach d → AreVisits d f vs ks ws → AreOfPlaced d.periodic.plan.placed (vs ++ ws)
all_placed d f vs ks ws due each h =
    let q = of_placed d f vs due h.queues in
    record {
      among = all_both (λ v. IsAmong d.periodic.plan.placed v.of) vs ws q.among (among d f ks ws h.descriptors);
      apart = apart_both vs ws q.apart (apart d f ks ws each h.different h.descriptors) (cross d f (queues_of d.periodic.list.members.schedule f) vs ks ws h.queues h.interrupts h.descriptors);
    }

pub all_within : (d : DriverContent) (f u : ℕ) (vs : List Visit) (ks : List Descriptor) (ws : List Visit) → AreDue d f → HasOneEach d → AreVisits d f vs ks ws → AllByRecursion (IsVisit u) (vs ++ ws) → spent (vs ++ ws) ≤ load d.periodic.plan.placed u
all_within d f u vs ks ws due each h good =
    visits_cost_at_most_the_load d.periodic.plan.placed u (vs ++ ws) (all_placed d f vs ks ws due each h) good

pub all_leave : (d : DriverContent) (f u : ℕ) (vs : List Visit) (ks : List Descriptor) (ws : List Visit) → AreDue d f → HasOneEach d → AreVisits d f vs ks ws → AllByRecursion (IsVisit u) (vs ++ ws) → Fits d.periodic.plan.placed → u < 8192 → spent (vs ++ ws) ≤ 100000000
all_leave d f u vs ks ws due each h good fits small = visits_leave_a_fifth d.periodic.plan.placed u (vs ++ ws) fits small (all_placed d f vs ks ws due each h) good

-- ---- the descriptors of a frame

called_itself : (k : Descriptor) → is_called k.id k ≡ true
called_itself k = eq-eqb k.id k.id refl

none_called : (k : Descriptor) (ks : List Descriptor) → count_by (is_called k.id) ks ≤ 0 → AllByRecursion (λ l. l ≢ k) ks
none_called k [] few = tt
none_called k (l ∷ ks) few =
    let count = count_first (is_called k.id) l ks in (
      (λ e. let own = one_more (is_called k.id l) (subst (λ (x : Descriptor). is_called k.id x ≡ true) (sym e) (called_itself k)) in omega
          (arith, count, own, few)),
      none_called k ks (omega (arith, count, few)),
    )

once_different : (ks : List Descriptor) → ((id : ℕ) → count_by (is_called id) ks ≤ 1) → AreDifferent ks
once_different [] once = tt
once_different (k ∷ ks) once =
    let own = one_more (is_called k.id k) (called_itself k) in
    let count = count_first (is_called k.id) k ks in
    let all = once k.id in
    (none_called k ks (omega (arith, own, count, all)), once_different ks (λ id. let c = count_first (is_called id) k ks in let a = once id in omega (arith, c, a)))

few_filtered : (id f : ℕ) (ks : List Descriptor) → count_by (is_called id) (filter (λ k. nat_eq k.frame f) ks) ≤ count_by (is_called id) ks
few_filtered id f [] = omega arith
few_filtered id f (k ∷ ks) = at (nat_eq k.frame f) (few_filtered id f ks)
  where
    at : (b : Bool) → count_by (is_called id) (filter (λ k. nat_eq k.frame f) ks) ≤ count_by (is_called id) ks → count_by (is_called id) (cond b (k ∷ filter (λ k. nat_eq k.frame f) ks) (filter (λ k. nat_eq k.frame f) ks)) ≤ count_by (is_called id) (k ∷ ks)
    at true rest = let a = count_first (is_called id) k (filter (λ k. nat_eq k.frame f) ks) in let b = count_first (is_called id) k ks in omega (arith, a, b, rest)
    at false rest = let b = count_first (is_called id) k ks in omega (arith, b, rest)

pub descriptors_of_a_frame_are_different : (d : DriverContent) (f : ℕ) → IsKept d.periodic.list.members.schedule → AreDifferent (descriptors_in d.periodic.list.members.schedule f)
descriptors_of_a_frame_are_different d f kept =
    once_different (descriptors_in d.periodic.list.members.schedule f)
    (λ id. let few = few_filtered id f d.periodic.list.members.schedule.descriptors in let all = kept.named id in omega (arith, few, all))
