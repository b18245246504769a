-- Queue heads that weren't given back stand in runs of their own: what is written to others leaves them.
use Rattle.std.proofs.Common.{◌≡◌, ◌≢◌, ℕ, suc, ◌+◌, ◌*◌, ◌/◌, ◌<◌, ◌≤◌, Bool, true, false, ◌||◌, cond, List, length, slice_get, Some, option_map, ap, sym, subst, ◌∙◌, ⊎_elim, refl, arith}
use Rattle.std.proofs.lemmas.Bool.{cases_Bool, false≢true}
use Rattle.std.proofs.lemmas.Bool.Decides.{nat_tests}
use Rattle.std.proofs.lemmas.Option.{same_Some}
use Rattle.std.proofs.lemmas.List.{get_or-set_same, get_or-set_other}
use Rattle.law_driver.proofs.Common.{ring_queue}
use Rattle.word_mem.specs.Memory.{Mem, IsShaped, word_at, with_word}
use Rattle.word_mem.proofs.Holders.{has_block_from}
use Rattle.mem_runs.specs.Book.{Book, Holding, Stands, IsAt, slot_of, can_store, store}
use Rattle.mem_runs.specs.declared.slots.Slot.{Slot}
use Rattle.mem_runs.specs.declared.slots.Slot.TheVariants.{Empty, Keeps, Lends}
use Rattle.drv_table.specs.declared.content.Endpoint.{Endpoint}
use Rattle.drv_table.specs.DriverContent.{DriverContent}
use Rattle.drv_table.specs.Words.{head_block}
use Rattle.claims_driver.specs.Owners.{Owner, Head, QueueHead, HasRun, SlotHas, IsPlaced, runs_of_endpoint}
use Rattle.claims_driver.specs.Leaving.{times, IsOrderly, HasOwners}
use Rattle.law_driver.proofs.lemmas.run_owners.Runs.{placed_run}
use Rattle.drv_periodic_table.specs.Periodic.{is_periodic}
use Rattle.drv_table.specs.Kinds.{is_iso}
use Rattle.law_driver.proofs.lemmas.run_owners.Orders.{has_left}
use Rattle.law_driver.proofs.lemmas.run_owners.Apart.{has_within}
use Rattle.claims_driver.specs.Ring.{IsAmong, link_in}
use Rattle.law_driver.specs.ring_members.Ring.{HasQueue}
use Rattle.law_driver.proofs.lemmas.ring_members.Links.{AreDistinct}
use Rattle.law_driver.proofs.lemmas.ring_members.Leaving.{among_times}

-- ---- a run has its first block

first_of : (s : Slot) (b : ℕ) → IsAt b s → HasRun s → SlotHas s b
first_of Empty b at run = run
first_of (Keeps r) b at run = has_block_from r b (omega (arith, at.0)) (omega (arith, at.0, at.1))
first_of (Lends r) b at run = has_block_from r b (omega (arith, at.0)) (omega (arith, at.0, at.1))

pub has_first : (h : Holding) (b : ℕ) → Stands h → HasRun (slot_of h.book.slots b) → SlotHas (slot_of h.book.slots b) b
has_first h b stands run = first_of (slot_of h.book.slots b) b (stands.placed b) run

-- the address of its first word
pub has_word : (h : Holding) (b : ℕ) → Stands h → HasRun (slot_of h.book.slots b) → SlotHas (slot_of h.book.slots b) (32 * b / 32)
has_word h b stands run = let e : b ≡ 32 * b / 32 = omega arith in subst (λ k. SlotHas (slot_of h.book.slots b) k) e (has_first h b stands run)

can_first : (s : Slot) (b : ℕ) → IsAt b s → HasRun s → can_store s (32 * b) ≡ true
can_first Empty b at run = absurd run
can_first (Keeps r) b at run = let low : 32 * r.first ≤ 32 * b = omega (arith, at.0) in let high : 32 * b < 32 * (r.first + r.blocks) = omega (arith, at.0, at.1) in grind (arith, nat_tests)
can_first (Lends r) b at run = let low : 32 * r.first ≤ 32 * b = omega (arith, at.0) in let high : 32 * b < 32 * (r.first + r.blocks) = omega (arith, at.0, at.1) in grind (arith, nat_tests)

pub can_begin : (h : Holding) (b : ℕ) → Stands h → HasRun (slot_of h.book.slots b) → can_store (slot_of h.book.slots b) (32 * b) ≡ true
can_begin h b stands run = can_first (slot_of h.book.slots b) b (stands.placed b) run

pub word_inside : (h : Holding) (b : ℕ) → Stands h → IsShaped h.memory → HasRun (slot_of h.book.slots b) → 32 * b / 4 < length h.memory.words
word_inside h b stands shape run = let w = has_within h b b stands (has_first h b stands run) in omega (arith, w, shape.eight_each)

-- ---- a store to the first word of a run

pub stored_here : (h : Holding) (b v : ℕ) → Stands h → IsShaped h.memory → HasRun (slot_of h.book.slots b) → link_in (store h.book h.memory b (32 * b) v) b ≡ v
stored_here h b v stands shape run =
    ap (λ (t : Bool). word_at (cond t (with_word h.memory (32 * b) v) h.memory) (32 * b)) (can_begin h b stands run)
    ∙ get_or-set_same h.memory.words (32 * b / 4) v 0 (word_inside h b stands shape run)

maybe_stored : (m : Mem) (b v c : ℕ) (can : Bool) → c ≢ b → link_in (cond can (with_word m (32 * b) v) m) c ≡ link_in m c
maybe_stored m b v c true differs = get_or-set_other m.words (32 * b / 4) (32 * c / 4) v 0 (λ same. differs (omega (arith, same)))
maybe_stored m b v c false differs = refl

pub stored_there : (k : Book) (m : Mem) (b v c : ℕ) → c ≢ b → link_in (store k m b (32 * b) v) c ≡ link_in m c
stored_there k m b v c differs = maybe_stored m b v c (can_store (slot_of k.slots b) (32 * b)) differs

-- ---- the queue heads of the ring

queue_number : Owner → ℕ
queue_number (QueueHead e) = suc e
queue_number _ = 0

pub queues_differ : (i j : ℕ) → i ≢ j → QueueHead i ≢ QueueHead j
unfolding queue_number
queues_differ i j differ same = differ (omega (arith, ap queue_number same))

pub not_head : (e : ℕ) → QueueHead e ≢ Head
unfolding queue_number
not_head e same = let f : suc e ≡ 0 = ap queue_number same in omega (arith, f)

-- an endpoint with a queue that wasn't given back
pub has_queue : (x : Endpoint) → is_iso x.desc.kind ≡ false → x.gone ≡ false → is_iso x.desc.kind || x.gone ≡ false
has_queue x queued alive = ap (λ b. b || x.gone) queued ∙ alive

pub in_ring_alive : (d : DriverContent) (e : ℕ) (x : Endpoint) → IsOrderly d → slice_get d.endpoints e ≡ Some x → x.linked ≡ true → is_iso x.desc.kind || x.gone ≡ false
in_ring_alive d e x order here on =
    let steady = order.steady e x here in
    has_queue x (ring_queue x.desc.kind (steady.ring on))
    (⊎_elim (λ (g : x.gone ≡ true). absurd (false≢true (sym (steady.gone g).0 ∙ on))) (λ (g : x.gone ≡ false). g) (cases_Bool x.gone))

pub queue_placed : (d : DriverContent) (e : ℕ) (x : Endpoint) → (has : HasOwners d) → slice_get d.endpoints e ≡ Some x → is_iso x.desc.kind || x.gone ≡ false → IsPlaced (slot_of d.book.slots) has.owner x.queue (QueueHead e)
queue_placed d e x has here alive = has.owned.each.queue e (runs_of_endpoint x) (ap (option_map runs_of_endpoint) here) alive

pub queue_run : (d : DriverContent) (e : ℕ) (x : Endpoint) → HasOwners d → slice_get d.endpoints e ≡ Some x → is_iso x.desc.kind || x.gone ≡ false → HasRun (slot_of d.book.slots x.queue)
queue_run d e x has here alive = placed_run x.queue (QueueHead e) (queue_placed d e x has here alive)

pub head_run_there : (d : DriverContent) → HasOwners d → HasRun (slot_of d.book.slots head_block)
head_run_there d has = placed_run head_block Head has.owned.each.head

pub queue_off_head : (d : DriverContent) (e : ℕ) (x : Endpoint) → HasOwners d → slice_get d.endpoints e ≡ Some x → is_iso x.desc.kind || x.gone ≡ false → x.queue ≢ head_block
queue_off_head d e x has here alive = λ same.
    not_head e (sym (queue_placed d e x has here alive).owned ∙ ap has.owner same ∙ has.owned.each.head.owned)

pub queues_apart : (d : DriverContent) (e f : ℕ) (x y : Endpoint) → HasOwners d → slice_get d.endpoints e ≡ Some x → is_iso x.desc.kind || x.gone ≡ false → slice_get d.endpoints f ≡ Some y → is_iso y.desc.kind || y.gone ≡ false → e ≢ f → x.queue ≢ y.queue
queues_apart d e f x y has here alive there also differ = λ same.
    queues_differ e f differ (sym (queue_placed d e x has here alive).owned ∙ ap has.owner same ∙ (queue_placed d f y has there also).owned)

pub ring_distinct : (d : DriverContent) → HasOwners d → AreDistinct d.endpoints
ring_distinct d has = record {
  off_head = λ i x here on. queue_off_head d i x has here (in_ring_alive d i x has.orderly here on);
  apart = λ i j x y here there on also differ. queues_apart d i j x y has here (in_ring_alive d i x has.orderly here on) there (in_ring_alive d j y has.orderly there also) differ;
}

-- one that left, and wasn't given back
pub left_alive : (d : DriverContent) (e : ℕ) (x : Endpoint) (es : List ℕ) → IsOrderly d → times e es ≤ times e d.rung + times e d.waiting → IsAmong e es → slice_get d.endpoints e ≡ Some x → (is_iso x.desc.kind || x.gone ≡ false) × (x.linked ≡ false)
left_alive d e x es order few among here =
    let l = has_left d.endpoints e (slice_get d.endpoints e) refl (omega (arith, few, among_times e es among, order.leaving e)) in
    let same = same_Some l.endpoint x (sym l.here ∙ here) in (
      has_queue x (ring_queue x.desc.kind (ap (λ (z : Endpoint). is_periodic z.desc.kind) (sym same) ∙ l.ring))
          (ap (λ (z : Endpoint). z.gone) (sym same) ∙ l.gone),
      ap (λ (z : Endpoint). z.linked) (sym same) ∙ l.linked,
    )

-- and it is no periodic one
pub left_ring : (d : DriverContent) (e : ℕ) (x : Endpoint) (es : List ℕ) → IsOrderly d → times e es ≤ times e d.rung + times e d.waiting → IsAmong e es → slice_get d.endpoints e ≡ Some x → (is_periodic x.desc.kind ≡ false) × (x.gone ≡ false)
left_ring d e x es order few among here =
    let l = has_left d.endpoints e (slice_get d.endpoints e) refl (omega (arith, few, among_times e es among, order.leaving e)) in
    let same = same_Some l.endpoint x (sym l.here ∙ here) in
    (ap (λ (z : Endpoint). is_periodic z.desc.kind) (sym same) ∙ l.ring, ap (λ (z : Endpoint). z.gone) (sym same) ∙ l.gone)

pub linked_alive : (d : DriverContent) (e : ℕ) (x : Endpoint) → IsOrderly d → slice_get d.endpoints e ≡ Some x → x.linked ≡ true → (is_periodic x.desc.kind ≡ false) × (x.gone ≡ false)
linked_alive d e x order here on =
    let steady = order.steady e x here in
    (steady.ring on, ⊎_elim (λ (g : x.gone ≡ true). absurd (false≢true (sym (steady.gone g).0 ∙ on))) (λ (g : x.gone ≡ false). g) (cases_Bool x.gone))

-- where two endpoints have queues, these stand apart
pub each_is_met_once : (d : DriverContent) (e f : ℕ) (x y : Endpoint) → HasOwners d → HasQueue d e x → HasQueue d f y → e ≢ f → x.queue ≢ y.queue
each_is_met_once d e f x y has one two differ = queues_apart d e f x y has one.here (has_queue x one.queued one.alive) two.here (has_queue y two.queued two.alive) differ
