-- Which queue heads a walk may not meet any more.
use Rattle.std.proofs.Common.{◌≡◌, ◌≢◌, ℕ, ◌+◌, ◌*◌, ◌≤◌, ◌||◌, Bool, true, false, slice_get, Some, ap, sym, ◌∙◌, ⊎_elim, refl, arith}
use Rattle.std.proofs.lemmas.Bool.{false≢true}
use Rattle.std.proofs.lemmas.Option.{same_Some}
use Rattle.law_common.proofs.Numbers.{same_blocks}
use Rattle.law_queues.proofs.Common.{not_one}
use Rattle.law_world.proofs.Common.{times_one}
use Rattle.law_driver.proofs.Common.{times_of}
use Rattle.drv_periodic_table.specs.Periodic.{is_periodic}
use Rattle.drv_table.specs.declared.content.Endpoint.{Endpoint}
use Rattle.drv_table.specs.DriverContent.{DriverContent}
use Rattle.drv_table.specs.Kinds.{is_iso}
use Rattle.drv_table.specs.Words.{head_block}
use Rattle.law_driver.specs.endpoint_lives.Lives.{may_meet}
use Rattle.law_driver.proofs.lemmas.endpoint_lives.Lives.{past_unmet, IsNear, in_ring, has_left, is_rung, met_where}
use Rattle.claims_driver.specs.Leaving.{times, leaves_ring, IsOrderly, HasOwners}
use Rattle.law_driver.proofs.lemmas.run_owners.Orders.{IsLeft, has_left as was_left, out_of_ring}
use Rattle.law_driver.specs.chained_transfers.Asynchronous.{StandsAsynchronous}
use Rattle.law_driver.specs.chained_transfers.AsynchronousTurns.{AsynchronousTakesTurns}
use Rattle.law_driver.proofs.lemmas.chained_transfers.BulkAndControl.{not_iso}
use Rattle.law_driver.proofs.lemmas.chained_transfers.Staying.{linked_stands_alive}
use Rattle.law_driver.proofs.lemmas.ring_members.Placed.{has_queue, queue_off_head, queues_apart}
use Rattle.law_driver_ring.specs.fed_queues.Places.{HasHead}
use Rattle.law_world.specs.steps.left_queues.Standing.{ClearedUnmet, ClearedIsNoHead}

-- ---- endpoints with a queue

queued : (x : Endpoint) → StandsAsynchronous x → x.gone ≡ false → is_iso x.desc.kind || x.gone ≡ false
queued x s kept = has_queue x (not_iso x.desc s.asynchronous) kept

-- where two that weren't given back have their queue heads at one place, they are one
pub apart_by : (d : DriverContent) (e f : ℕ) (x y : Endpoint) → HasOwners d → AsynchronousTakesTurns d → slice_get d.endpoints e ≡ Some x → x.gone ≡ false → slice_get d.endpoints f ≡ Some y → y.gone ≡ false → e ≢ f
    → 32 * x.queue ≢ 32 * y.queue
apart_by d e f x y owners turns here kept there also differ same =
    queues_apart d e f x y owners here (queued x (turns.asynchronous.endpoints e x here) kept) there (queued y (turns.asynchronous.endpoints f y there) also) differ (same_blocks x.queue y.queue same)

-- .. and none of them is the head of the ring
pub off_head_by : (d : DriverContent) (e : ℕ) (x : Endpoint) → HasOwners d → AsynchronousTakesTurns d → slice_get d.endpoints e ≡ Some x → x.gone ≡ false → 32 * x.queue ≢ 32 * head_block
off_head_by d e x owners turns here kept same =
    queue_off_head d e x owners here (queued x (turns.asynchronous.endpoints e x here) kept) (same_blocks x.queue head_block same)

-- ---- one that has left

-- what may be met wasn't given back
left_kept : (d : DriverContent) (e : ℕ) (x : Endpoint) → slice_get d.endpoints e ≡ Some x → IsOrderly d → 1 ≤ times e d.waiting + times e d.rung → x.gone ≡ false
left_kept d e x here order some =
    let most = order.leaving e in
    let l : IsLeft d.endpoints e = was_left d.endpoints e (slice_get d.endpoints e) refl (omega (arith, some, most)) in
    ap (λ (z : Endpoint). z.gone) (same_Some x l.endpoint (sym here ∙ l.here)) ∙ l.gone

pub near_kept : (d : DriverContent) (e : ℕ) (x : Endpoint) → HasOwners d → AsynchronousTakesTurns d → slice_get d.endpoints e ≡ Some x → may_meet d e x ≡ true → x.gone ≡ false
near_kept d e x owners turns here near = by (met_where d e x near)
  where
    by : IsNear d e x → x.gone ≡ false
    by (in_ring on) = linked_stands_alive x (turns.asynchronous.endpoints e x here) on
    by (has_left on) = let some = times_one e d.waiting on in left_kept d e x here owners.orderly (omega (arith, some))
    by (is_rung on) = let some = times_one e d.rung on in left_kept d e x here owners.orderly (omega (arith, some))

pub record IsCleared (d : DriverContent) (e : ℕ) (x : Endpoint) : Type 0 where
  pub linked : x.linked ≡ false
  pub kept : x.gone ≡ false
  pub near : may_meet d e x ≡ false

pub cleared_is : (d : DriverContent) (i e : ℕ) (x : Endpoint) → IsOrderly d → slice_get d.cleared i ≡ Some e → slice_get d.endpoints e ≡ Some x → IsCleared d e x
cleared_is d i e x order at here =
    let some = times_of d.cleared i e at in
    let most = order.leaving e in
    let l : IsLeft d.endpoints e = was_left d.endpoints e (slice_get d.endpoints e) refl (omega (arith, some, most)) in
    let same : x ≡ l.endpoint = same_Some x l.endpoint (sym here ∙ l.here) in
    let linked : x.linked ≡ false = ap (λ (z : Endpoint). z.linked) same ∙ l.linked in
    let kept : x.gone ≡ false = ap (λ (z : Endpoint). z.gone) same ∙ l.gone in
    let one = ap leaves_ring here ∙ out_of_ring x linked kept (ap (λ (z : Endpoint). is_periodic z.desc.kind) same ∙ l.ring) in
    record {
      linked = linked;
      kept = kept;
      near = past_unmet d e x (record { unlinked = linked; waits = not_one e d.waiting (omega (arith, some, most, one)); rung = not_one e d.rung (omega (arith, some, most, one)) });
    }

-- one that is met is another one
pub near_other : (d : DriverContent) (e : ℕ) (x : Endpoint) → slice_get d.endpoints e ≡ Some x → may_meet d e x ≡ false → (k : ℕ) (z : Endpoint) → slice_get d.endpoints k ≡ Some z → may_meet d k z ≡ true → k ≢ e
near_other d e x here off k z there near own =
    let is : z ≡ x = same_Some z x (sym there ∙ ap (slice_get d.endpoints) own ∙ here) in
    false≢true (sym off ∙ ap (may_meet d e) (sym is) ∙ ap (λ (i : ℕ). may_meet d i z) (sym own) ∙ near)

pub no_head : (d : DriverContent) (e : ℕ) (x : Endpoint) → HasOwners d → AsynchronousTakesTurns d → slice_get d.endpoints e ≡ Some x → IsCleared d e x → HasHead d (32 * x.queue) → ⊥
no_head d e x owners turns here c h =
    apart_by d h.number e h.endpoint x owners turns h.here h.met.there.kept here c.kept (near_other d e x here c.near h.number h.endpoint h.here h.met.near) (sym h.at)

pub cleared_is_no_head : ClearedIsNoHead
cleared_is_no_head d i e x owners turns at here h = no_head d e x owners turns here (cleared_is d i e x owners.orderly at here) h

pub cleared_unmet : ClearedUnmet
cleared_unmet d member i e x owners turns met at here = by (member (32 * x.queue)) refl
  where
    c : IsCleared d e x
    c = cleared_is d i e x owners.orderly at here

    by : (b : Bool) → member (32 * x.queue) ≡ b → member (32 * x.queue) ≡ false
    by false is = is
    by true is =
        absurd (⊎_elim (λ (head : 32 * x.queue ≡ 32 * head_block). off_head_by d e x owners turns here c.kept head) (λ (h : HasHead d (32 * x.queue)). no_head d e x owners turns here c h) (met.only (32 * x.queue) is))
