-- The visits of a frame's queue heads are of different placed endpoints, so they cost together at most the load.
use Rattle.std.proofs.Common.{◌≡◌, ◌≢◌, ℕ, ◌<◌, ◌≤◌, true, List, [], ◌∷◌, Some, ap, sym, subst, ◌∙◌, arith}
use Rattle.std.specs.Prelude.{count_by}
use Rattle.std.specs.List.{AllByRecursion}
use Rattle.std.proofs.lemmas.Bool.Decides.{nat_tests}
use Rattle.law_budgets.proofs.Common.{one_more}
use Rattle.bandwidth.specs.declared.placements.Placed.{Placed}
use Rattle.bandwidth.specs.Sums.{Fits, load}
use Rattle.drv_chains.specs.declared.members.QueueHead.{QueueHead}
use Rattle.drv_members.specs.Ranks.{is_named}
use Rattle.drv_members.proofs.Splits.{one_if, count_first}
use Rattle.drv_table.specs.DriverContent.{DriverContent}
use Rattle.claims_driver.specs.DueMembers.{queues_of, AreDue}
use Rattle.law_driver.proofs.lemmas.planned_endpoints.Queues.{an_endpoint_has_one_queue_head}
use Rattle.law_budgets.specs.visit_prices.Spent.{Visit, IsVisit, IsAmong, AreApart, AreOfPlaced, spent}
use Rattle.law_budgets.proofs.lemmas.visit_prices.Joined.{visits_cost_at_most_the_load, visits_leave_a_fifth}
use Rattle.law_budgets.specs.frame_budget.Visited.{IsVisitOf, AreVisitsOf, VisitsDue}

among : (d : DriverContent) (qs : List QueueHead) (vs : List Visit) → AreVisitsOf d qs vs → AllByRecursion (λ v. IsAmong d.periodic.plan.placed v.of) vs
among d [] [] h = tt
among d (q ∷ qs) (v ∷ vs) h =
    (record { place = h.0.queue.counts.place; there = h.0.queue.counts.there ∙ ap (λ (y : Placed). Some y) (sym h.0.of) }, among d qs vs h.1)
among d [] (v ∷ vs) h = absurd h
among d (q ∷ qs) [] h = absurd h

-- ---- no endpoint is visited twice

named_itself : (q : QueueHead) → is_named q.id q ≡ true
named_itself q = grind (arith, nat_tests)

none_less : (q : QueueHead) (qs : List QueueHead) (id : ℕ) → count_by (is_named id) (q ∷ qs) ≤ 1 → count_by (is_named id) qs ≤ 1
none_less q qs id h = omega (arith, count_first (is_named id) q qs, h)

its_number : (d : DriverContent) (q : QueueHead) (v : Visit) (h : IsVisitOf d q v) → v.of.want.id ≡ h.queue.number
its_number d q v h = ap (λ (y : Placed). y.want.id) h.of

not_named : (d : DriverContent) (q r : QueueHead) (v w : Visit) (h : IsVisitOf d q v) (k : IsVisitOf d r w) → one_if (is_named q.id r) ≤ 0 → w.of.want.id ≢ v.of.want.id
not_named d q r v w h k none = λ e.
    let same : h.queue.number ≡ k.queue.number = sym (its_number d q v h) ∙ sym e ∙ its_number d r w k in
    let is : q ≡ r = an_endpoint_has_one_queue_head d q r h.queue k.queue same in
    let named : is_named q.id r ≡ true = subst (λ (x : QueueHead). is_named q.id x ≡ true) is (named_itself q) in
    omega (arith, one_more (is_named q.id r) named, none)

others : (d : DriverContent) (q : QueueHead) (v : Visit) (h : IsVisitOf d q v) (qs : List QueueHead) (vs : List Visit) → count_by (is_named q.id) qs ≤ 0 → AreVisitsOf d qs vs
    → AllByRecursion (λ w. w.of.want.id ≢ v.of.want.id) vs
others d q v h [] [] none k = tt
others d q v h (r ∷ rs) (w ∷ ws) none k =
    let count = count_first (is_named q.id) r rs in
    (not_named d q r v w h k.0 (omega (arith, count, none)), others d q v h rs ws (omega (arith, count, none)) k.1)
others d q v h [] (w ∷ ws) none k = absurd k
others d q v h (r ∷ rs) [] none k = absurd k

apart : (d : DriverContent) (qs : List QueueHead) (vs : List Visit) → ((id : ℕ) → count_by (is_named id) qs ≤ 1) → AreVisitsOf d qs vs → AreApart vs
apart d [] [] once h = tt
apart d (q ∷ qs) (v ∷ vs) once h =
    let count = count_first (is_named q.id) q qs in
    let own = one_more (is_named q.id q) (named_itself q) in
    let all = once q.id in
    (others d q v h.0 qs vs (omega (arith, count, own, all)) h.1, apart d qs vs (λ id. none_less q qs id (once id)) h.1)
apart d [] (v ∷ vs) once h = absurd h
apart d (q ∷ qs) [] once h = absurd h

pub of_placed : (d : DriverContent) (f : ℕ) (vs : List Visit) → AreDue d f → VisitsDue d f vs → AreOfPlaced d.periodic.plan.placed vs
of_placed d f vs due h = record {
  among = among d (queues_of d.periodic.list.members.schedule f) vs h;
  apart = apart d (queues_of d.periodic.list.members.schedule f) vs due.once h;
}

pub visits_of_a_frame_cost_at_most_the_load : (d : DriverContent) (f u : ℕ) (vs : List Visit) → AreDue d f → VisitsDue d f vs → AllByRecursion (IsVisit u) vs → spent vs ≤ load d.periodic.plan.placed u
visits_of_a_frame_cost_at_most_the_load d f u vs due h good =
    visits_cost_at_most_the_load d.periodic.plan.placed u vs (of_placed d f vs due h) good

pub visits_of_a_frame_leave_a_fifth : (d : DriverContent) (f u : ℕ) (vs : List Visit) → AreDue d f → VisitsDue d f vs → AllByRecursion (IsVisit u) vs → Fits d.periodic.plan.placed → u < 8192 → spent vs ≤ 100000000
visits_of_a_frame_leave_a_fifth d f u vs due h good fits small =
    visits_leave_a_fifth d.periodic.plan.placed u vs fits small (of_placed d f vs due h) good
