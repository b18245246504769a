-- The walk of the ring may not reach the queue head of an endpoint that is out of the ring, and neither waits for the doorbell nor for its answer.
use Rattle.std.proofs.Common.{◌≡◌, ◌≢◌, ℕ, zero, suc, ◌+◌, ◌*◌, ◌≤◌, ◌==◌, ◌||◌, Bool, false, cond, List, [], ◌∷◌, slice_get, Some, ⊎_elim, ap, refl, sym, ◌∙◌, arith}
use Rattle.std.proofs.lemmas.Bool.{true≢false, cases_eq, false_from_ne_true}
use Rattle.std.proofs.lemmas.Option.{same_Some}
use Rattle.law_driver.proofs.Common.{not_in_ring, ring_queue}
use Rattle.law_common.proofs.Booleans.{one_most}
use Rattle.drv_periodic_table.specs.Periodic.{is_periodic}
use Rattle.drv_table.specs.declared.content.Endpoint.{Endpoint}
use Rattle.drv_table.specs.DriverContent.{DriverContent}
use Rattle.drv_table.specs.Kinds.{is_iso}
use Rattle.claims_driver.specs.Leaving.{times, leaves_ring, HasOwners}
use Rattle.law_driver.proofs.lemmas.run_owners.Orders.{one_same, IsLeft, has_left}
use Rattle.claims_driver.specs.Ring.{IsQueueOf}
use Rattle.law_driver.proofs.lemmas.ring_members.Placed.{has_queue, in_ring_alive, queue_off_head, queues_apart, left_alive}
use Rattle.law_driver.proofs.lemmas.ring_members.Leaving.{among_times}
use Rattle.claims_driver.specs.Walk.{IsReached, at_head, at_member, at_waiting, at_rung}
use Rattle.law_queues.specs.reached_rings.Reaching.{is_reached, ReachedAt}
use Rattle.law_queues.proofs.lemmas.reached_rings.Computing.{reached_is_reached}
use Rattle.law_world.specs.memory.framed_memory.Leaving.{InterruptIsUnreached, ClearedIsUnreached}

module _ (d : DriverContent) (rings : Bool) (e : ℕ) (x : Endpoint) (has : HasOwners d) (here : slice_get d.endpoints e ≡ Some x) (queued : is_iso x.desc.kind ≡ false) (kept : x.gone ≡ false) (linked : x.linked ≡ false) (none : times e d.waiting + times e d.rung ≡ 0) where
  bare : is_iso x.desc.kind || x.gone ≡ false
  bare = has_queue x queued kept

  -- its queue head's block is that of no other
  its_own : (f b : ℕ) (at : IsQueueOf d.endpoints f b) → x.queue ≡ b → is_iso at.endpoint.desc.kind || at.endpoint.gone ≡ false → f ≡ e
  its_own f b at same alive =
      ⊎_elim (λ (is : f ≡ e). is) (λ (differs : f ≢ e). absurd (queues_apart d f e at.endpoint x has at.here alive here bare differs (at.queue ∙ sym same))) (cases_eq f e)

  not_reached : (b : ℕ) → x.queue ≡ b → IsReached d rings b → ⊥
  not_reached b same (at_head head) = queue_off_head d e x has here bare (same ∙ head)
  not_reached b same (at_member f at on) =
      let is : f ≡ e = its_own f b at same (in_ring_alive d f at.endpoint has.orderly at.here on) in
      let one : at.endpoint ≡ x = same_Some at.endpoint x (sym at.here ∙ ap (slice_get d.endpoints) is ∙ here) in
      true≢false (sym on ∙ ap (λ (z : Endpoint). z.linked) one ∙ linked)
  not_reached b same (at_waiting f at among) =
      let is : f ≡ e = its_own f b at same (left_alive d f at.endpoint d.waiting has.orderly (omega arith) among at.here).0 in
      let some = among_times f d.waiting among in
      let its : times f d.waiting ≡ times e d.waiting = ap (λ (n : ℕ). times n d.waiting) is in
      omega (arith, some, its, none)
  not_reached b same (at_rung f at among on) =
      let is : f ≡ e = its_own f b at same (left_alive d f at.endpoint d.rung has.orderly (omega arith) among at.here).0 in
      let some = among_times f d.rung among in
      let its : times f d.rung ≡ times e d.rung = ap (λ (n : ℕ). times n d.rung) is in
      omega (arith, some, its, none)

  unreached : is_reached d rings (32 * x.queue) ≡ false
  unreached =
      false_from_ne_true (is_reached d rings (32 * x.queue))
      (λ on.
      let r : ReachedAt d rings (32 * x.queue) = reached_is_reached d rings (32 * x.queue) on in
      let at : 32 * x.queue ≡ 32 * r.block = r.at in
      let same : x.queue ≡ r.block = omega (arith, at) in
      not_reached r.block same r.reached)

-- ---- an interrupt endpoint

pub interrupt_is_unreached : InterruptIsUnreached
interrupt_is_unreached d rings e x has here queued frames kept = unreached d rings e x has here queued kept linked none
  where
    linked : x.linked ≡ false
    linked = false_from_ne_true x.linked (λ on. true≢false (sym frames ∙ (has.orderly.steady e x here).ring on))

    none : times e d.waiting + times e d.rung ≡ 0
    none = let most = has.orderly.leaving e in let owes = ap leaves_ring here ∙ not_in_ring x frames in omega (arith, most, owes)

-- ---- one that was cleared

times_at : (e : ℕ) (es : List ℕ) (i : ℕ) → slice_get es i ≡ Some e → 1 ≤ times e es
times_at e [] i at = absurd (cc)
times_at e (f ∷ es) zero at =
    let same : f ≡ e = same_Some f e at in
    let one : ◌≡◌ {A = ℕ} (cond (f == e) 1 0) 1 = ap (λ (g : ℕ). cond (g == e) 1 0) same ∙ one_same e in
    omega (arith, one)
times_at e (f ∷ es) (suc i) at = let later = times_at e es i at in omega (arith, later)

pub cleared_is_unreached : ClearedIsUnreached
cleared_is_unreached d rings i e x has at here = unreached d rings e x has here queued kept linked none
  where
    left : IsLeft d.endpoints e
    left = let some = times_at e d.cleared i at in let most = has.orderly.leaving e in has_left d.endpoints e (slice_get d.endpoints e) refl (omega (arith, some, most))

    is : left.endpoint ≡ x
    is = same_Some left.endpoint x (sym left.here ∙ here)

    queued : is_iso x.desc.kind ≡ false
    queued = ring_queue x.desc.kind (ap (λ (z : Endpoint). is_periodic z.desc.kind) (sym is) ∙ left.ring)

    kept : x.gone ≡ false
    kept = ap (λ (z : Endpoint). z.gone) (sym is) ∙ left.gone

    linked : x.linked ≡ false
    linked = ap (λ (z : Endpoint). z.linked) (sym is) ∙ left.linked

    none : times e d.waiting + times e d.rung ≡ 0
    none =
        let some = times_at e d.cleared i at in
        let most = has.orderly.leaving e in
        let owes : leaves_ring (slice_get d.endpoints e) ≡ cond (x.linked || x.gone || is_periodic x.desc.kind) 0 1 = ap leaves_ring here in
        let once = one_most (x.linked || x.gone || is_periodic x.desc.kind) in
        omega (arith, some, most, owes, once)
