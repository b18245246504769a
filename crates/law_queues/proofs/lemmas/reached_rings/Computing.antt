-- What is computed from the driver's content is where a walk may go.
use Rattle.std.proofs.Common.{◌≡◌, ℕ, zero, suc, ◌*◌, ◌==◌, Bool, true, false, ◌&&◌, ◌||◌, List, [], ◌∷◌, ◌++◌, slice_get, Some, ap, sym, ◌∙◌, ⊎_elim, refl, arith}
use Rattle.std.proofs.lemmas.Bool.{false≢true, eqb-true, eq-eqb, and_parts, and_from, or_cases, or_left, or_right}
use Rattle.law_queues.proofs.Common2.{one_among}
use Rattle.law_driver.proofs.Common.{ring_queue, among_later}
use Rattle.drv_table.specs.declared.content.Endpoint.{Endpoint}
use Rattle.drv_table.specs.DriverContent.{DriverContent}
use Rattle.drv_table.specs.Words.{head_block}
use Rattle.claims_driver.specs.Leaving.{IsOrderly}
use Rattle.law_driver.proofs.lemmas.run_owners.Orders.{times_both}
use Rattle.claims_driver.specs.Ring.{IsQueueOf, IsAmong, first, later}
use Rattle.law_driver.proofs.lemmas.ring_members.Placed.{left_ring, linked_alive}
use Rattle.law_driver.specs.queue_head_words.Overlay.{HasQueueHead, of_ring, of_endpoint}
use Rattle.claims_driver.specs.Walk.{IsReached, at_head, at_member, at_waiting, at_rung}
use Rattle.law_driver_ring.proofs.lemmas.walk_members.Leading.{among_front}
use Rattle.law_driver.specs.endpoint_lives.Lives.{any_at, is_one_of}
use Rattle.law_driver.proofs.lemmas.endpoint_lives.Lives.{any_there, there_any}
use Rattle.law_queues.specs.reached_rings.Reaching.{may_reach, is_reached, ReachedIsReached, IsReachedReached, ReachedHasQueueHead, AnswerReachesFewer}

-- ---- one of a list

pub among_one : (e : ℕ) (es : List ℕ) → IsAmong e es → is_one_of e es ≡ true
among_one e [] among = elim among [ ]
among_one e (_ ∷ _) (first es) = or_left (e == e) (is_one_of e es) (eq-eqb e e refl)
among_one e (_ ∷ _) (later f es rest) = or_right (e == f) (is_one_of e es) (among_one e es rest)

-- ---- an endpoint

reach_at : (d : DriverContent) (rings : Bool) (e : ℕ) (x : Endpoint) → slice_get d.endpoints e ≡ Some x → may_reach d rings e x ≡ true → IsReached d rings x.queue
reach_at d rings e x here on =
    let at : IsQueueOf d.endpoints e x.queue = record { endpoint = x; here = here; queue = refl } in
    ⊎_elim (λ (linked : x.linked ≡ true). at_member e at linked)
    (λ (left : (is_one_of e d.waiting || (is_one_of e d.rung && rings)) ≡ true).
    ⊎_elim (λ (w : is_one_of e d.waiting ≡ true). at_waiting e at (one_among e d.waiting w))
    (λ (r : (is_one_of e d.rung && rings) ≡ true). let b = and_parts (is_one_of e d.rung) rings r in at_rung e at (one_among e d.rung b.0) b.1)
    (or_cases (is_one_of e d.waiting) (is_one_of e d.rung && rings) left))
    (or_cases x.linked (is_one_of e d.waiting || (is_one_of e d.rung && rings)) on)

pub reached_is_reached : ReachedIsReached
reached_is_reached d rings n on =
    ⊎_elim (λ (head : (n == 32 * head_block) ≡ true). record { block = head_block; at = eqb-true n (32 * head_block) head; reached = at_head refl })
    (λ (any : any_at (λ e x. (n == 32 * x.queue) && may_reach d rings e x) d.endpoints ≡ true).
    let r = any_there (λ e x. (n == 32 * x.queue) && may_reach d rings e x) d.endpoints any in
    let b = and_parts (n == 32 * r.endpoint.queue) (may_reach d rings r.number r.endpoint) r.is in
    record { block = r.endpoint.queue; at = eqb-true n (32 * r.endpoint.queue) b.0; reached = reach_at d rings r.number r.endpoint r.here b.1 })
    (or_cases (n == 32 * head_block) (any_at (λ e x. (n == 32 * x.queue) && may_reach d rings e x) d.endpoints) on)

-- the queue head of an endpoint
at_queue : (d : DriverContent) (rings : Bool) (e b : ℕ) (at : IsQueueOf d.endpoints e b) → may_reach d rings e at.endpoint ≡ true → is_reached d rings (32 * b) ≡ true
at_queue d rings e b at on =
    or_right (32 * b == 32 * head_block) (any_at (λ f x. (32 * b == 32 * x.queue) && may_reach d rings f x) d.endpoints)
    (there_any (λ f x. (32 * b == 32 * x.queue) && may_reach d rings f x) d.endpoints e at.endpoint at.here
    (and_from (32 * b == 32 * at.endpoint.queue) (may_reach d rings e at.endpoint) (eq-eqb (32 * b) (32 * at.endpoint.queue) (ap (λ (k : ℕ). 32 * k) (sym at.queue))) on))

pub is_reached_reached : IsReachedReached
is_reached_reached d rings b (at_head h) =
    or_left (32 * b == 32 * head_block) (any_at (λ e x. (32 * b == 32 * x.queue) && may_reach d rings e x) d.endpoints) (eq-eqb (32 * b) (32 * head_block) (ap (λ (k : ℕ). 32 * k) h))
is_reached_reached d rings b (at_member e at on) = at_queue d rings e b at (or_left at.endpoint.linked (is_one_of e d.waiting || (is_one_of e d.rung && rings)) on)
is_reached_reached d rings b (at_waiting e at among) =
    at_queue d rings e b at
    (or_right at.endpoint.linked (is_one_of e d.waiting || (is_one_of e d.rung && rings)) (or_left (is_one_of e d.waiting) (is_one_of e d.rung && rings) (among_one e d.waiting among)))
is_reached_reached d rings b (at_rung e at among on) =
    at_queue d rings e b at
    (or_right at.endpoint.linked (is_one_of e d.waiting || (is_one_of e d.rung && rings))
    (or_right (is_one_of e d.waiting) (is_one_of e d.rung && rings) (and_from (is_one_of e d.rung) rings (among_one e d.rung among) on)))

-- ---- they have queue heads

left_there : (d : DriverContent) (e b : ℕ) → IsOrderly d → IsQueueOf d.endpoints e b → IsAmong e (d.rung ++ d.waiting) → HasQueueHead d b
left_there d e b order at among =
    let l = left_ring d e at.endpoint (d.rung ++ d.waiting) order (omega (arith, times_both e d.rung d.waiting)) among at.here in
    of_endpoint e at.endpoint at.here (ring_queue at.endpoint.desc.kind l.0) l.1 at.queue

there_by : (d : DriverContent) (rings : Bool) (b : ℕ) → IsOrderly d → IsReached d rings b → HasQueueHead d b
there_by d rings b order (at_head h) = of_ring h
there_by d rings b order (at_member e at on) = let l = linked_alive d e at.endpoint order at.here on in of_endpoint e at.endpoint at.here (ring_queue at.endpoint.desc.kind l.0) l.1 at.queue
there_by d rings b order (at_waiting e at among) = left_there d e b order at (among_later e d.rung d.waiting among)
there_by d rings b order (at_rung e at among on) = left_there d e b order at (among_front e d.rung d.waiting among)

pub reached_has_queue_head : ReachedHasQueueHead
reached_has_queue_head d rings n owners on =
    let r = reached_is_reached d rings n on in record { block = r.block; at = r.at; there = there_by d rings r.block owners.orderly r.reached }

-- ---- an answer makes them fewer

before_answer : (d : DriverContent) (rings : Bool) (b : ℕ) → IsReached d false b → IsReached d rings b
before_answer d rings b (at_head h) = at_head h
before_answer d rings b (at_member e at on) = at_member e at on
before_answer d rings b (at_waiting e at among) = at_waiting e at among
before_answer d rings b (at_rung e at among on) = absurd (false≢true on)

pub answer_reaches_fewer : AnswerReachesFewer
answer_reaches_fewer d rings n on =
    let r = reached_is_reached d false n on in ap (is_reached d rings) r.at ∙ is_reached_reached d rings r.block (before_answer d rings r.block r.reached)
