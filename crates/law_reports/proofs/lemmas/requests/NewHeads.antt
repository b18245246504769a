-- An endpoint that is opened has no transfer yet, and its queue head is at rest.
use Rattle.std.proofs.Common.{◌≡◌, ◌≢◌, ℕ, suc, ◌+◌, ◌*◌, ◌==◌, ◌||◌, ◌&&◌, not, Bool, true, false, cond, if◌then◌else◌, List, [], ◌∷◌, count_by, slice_get, Option, Some, None, option_map, ap, refl, sym, ◌∙◌, arith}
use Rattle.std.proofs.lemmas.Bool.{false≢true, true≢false}
use Rattle.std.proofs.lemmas.Option.{same_Some}
use Rattle.std.proofs.lemmas.List.Sums.{sum_by-cons}
use Rattle.usb_base.specs.declared.packets.Reply.{Reply}
use Rattle.qh_qtd.specs.declared.queue_head.Qh.{Qh}
use Rattle.hc_copy.specs.Planning.{host_in}
use Rattle.drv_table.specs.declared.content.Endpoint.{Endpoint}
use Rattle.drv_table.specs.declared.content.Transfer.{Transfer}
use Rattle.drv_table.specs.DriverContent.{waits_for}
use Rattle.usb_base.specs.declared.packets.Speed.{Speed}
use Rattle.drv_table.specs.Words.{queue_head, dummy_qtd}
use Rattle.law_driver.specs.chained_transfers.Turns.{Turn, turn_of, turn_in, AreReportedTo}
use Rattle.law_structures.specs.lent_structures.Structures.{StructureSets, QueueHead, Element, with_structure}
use Rattle.law_common.proofs.Numbers.{other_number}
use Rattle.law_ring.specs.Hand.{Hand, Empty, Copied, Settled, Stale}
use Rattle.law_ring.specs.Ring.{IsInHand}
use Rattle.law_ring.specs.Told.{HasEndpoint, Endpoint as Characteristics, endpoint_of}
use Rattle.law_devices.specs.ring_requests.Shown.{hand_side}
use Rattle.law_driver_ring.specs.Linked.{no_part}
use Rattle.claims_world.specs.Requests.{numbers_from}
use Rattle.law_reports.specs.requests.Courses.{Course, NoQueue, has_queue}
use Rattle.law_reports.specs.requests.Missed.{MissesNone}
use Rattle.law_world.specs.memory.Steps.{HandStays, same_hand, linked_hand}
use Rattle.hc_copy.specs.Visits.{next_pointer}
use Rattle.link_words.specs.Links.{qtd_link_of}
use Rattle.link_words.specs.declared.kinds.QtdLink.TheVariants.{To}
use Rattle.qh_qtd.specs.declared.qtd.Qtd.{Qtd}

-- ---- an endpoint without transfers

pub no_numbers : (e n : ℕ) (ts : List Transfer) → ((t : ℕ) (y : Transfer) → slice_get ts t ≡ Some y → y.endpoint ≢ e)
    → numbers_from e n ts ≡ []
no_numbers e n [] none = refl
no_numbers e n (y ∷ ys) none =
    ap (λ (b : Bool). if b then n ∷ numbers_from e (suc n) ys else numbers_from e (suc n) ys) (other_number y.endpoint e (none 0 y refl)) ∙ no_numbers e (suc n) ys (λ t z there. none (suc t) z there)

pub no_waiting : (e : ℕ) (ts : List Transfer) → ((t : ℕ) (y : Transfer) → slice_get ts t ≡ Some y → y.endpoint ≢ e)
    → count_by (waits_for e) ts ≡ 0
no_waiting e [] none = refl
no_waiting e (y ∷ ys) none =
    let first : count_by (waits_for e) (y ∷ ys) ≡ 0 + count_by (waits_for e) ys =
    sum_by-cons (λ z. cond (waits_for e z) 1 0) y ys ∙ ap (λ (b : Bool). cond (b && not y.reported) 1 0 + count_by (waits_for e) ys) (other_number y.endpoint e (none 0 y refl)) in
    let later = no_waiting e ys (λ t z there. none (suc t) z there) in
    omega (arith, first, later)

of_none : {A : Type 0} (o : Option Transfer) (tr : Turn) → o ≡ None → option_map turn_of o ≡ Some tr → A
of_none o tr is turn = let never : ◌≡◌ {A = Option Turn} None (Some tr) = sym (ap (option_map turn_of) is) ∙ turn in absurd (cc)

-- none of them is next
pub no_next : (ts : List Transfer) (e : ℕ) (o : Option ℕ) → ((t : ℕ) (y : Transfer) → slice_get ts t ≡ Some y → y.endpoint ≢ e)
    → AreReportedTo (turn_in ts) e o → o ≡ None
no_next ts e None none k = refl
no_next ts e (Some t) none k = by (slice_get ts t) refl
  where
    by : (o : Option Transfer) → slice_get ts t ≡ o → Some t ≡ None
    by None is = of_none (slice_get ts t) k.transfer is k.here
    by (Some y) is = absurd (none t y is (ap (λ (tr : Turn). tr.endpoint) (same_Some (turn_of y) k.transfer (sym (ap (option_map turn_of) is) ∙ k.here)) ∙ k.endpoint))

-- ---- a new queue head

pub no_queue : (c : Course) → has_queue c ≡ false → c ≡ NoQueue
no_queue NoQueue off = refl
no_queue _ off = absurd (true≢false off)

-- nothing of it is in hand
pub no_side : (member : ℕ → Bool) (parts : StructureSets) (reply : Reply) (n : ℕ) (q : Qh) (hand : Hand) → member n ≡ false
    → IsInHand member parts reply hand → hand_side hand n q ≡ host_in q
no_side member parts reply n q (Settled c z) off i =
    ap (λ (b : Bool). if b then z.host else host_in q) (other_number c.at n (λ same. false≢true (sym off ∙ ap member (sym same) ∙ i.0.on)))
no_side member parts reply n q _ off i = refl

-- what was in hand of none of these is of none of them but the new one
pub begun_misses : (member : ℕ → Bool) (parts : StructureSets) (reply : Reply) (asked now : ℕ → Bool) (n : ℕ) → member n ≡ false
    → ((j : ℕ) → now j ≡ true → j ≢ n → asked j ≡ true) → (hand held : Hand) → HandStays hand held
    → IsInHand member parts reply hand → MissesNone asked held → MissesNone now held
begun_misses member parts reply asked now n off was Empty _ same_hand i none = tt
begun_misses member parts reply asked now n off was (Copied c) _ same_hand i none = λ on. none (was c.at on (λ same. false≢true (sym off ∙ ap member (sym same) ∙ i.on)))
begun_misses member parts reply asked now n off was (Settled c s) _ same_hand i none = λ on. none (was c.at on (λ same. false≢true (sym off ∙ ap member (sym same) ∙ i.0.on)))
begun_misses member parts reply asked now n off was (Stale m q) _ same_hand i none = tt
begun_misses member parts reply asked now n off was Empty _ (linked_hand j l) i none = tt
begun_misses member parts reply asked now n off was (Copied c) _ (linked_hand j l) i none = λ on. none (was c.at on (λ same. false≢true (sym off ∙ ap member (sym same) ∙ i.on)))
begun_misses member parts reply asked now n off was (Settled c s) _ (linked_hand j l) i none = λ on. none (was c.at on (λ same. false≢true (sym off ∙ ap member (sym same) ∙ i.0.on)))
begun_misses member parts reply asked now n off was (Stale m q) _ (linked_hand j l) i none = tt

-- the endpoint of the queue head that is opened
pub record IsHeadOf (parts : StructureSets) (x : Endpoint) : Type 0 where
  pub own : Characteristics
  pub has : HasEndpoint parts (32 * x.queue) own
  pub address : own.addr ≡ x.desc.name.addr
  pub ep : own.ep ≡ x.desc.name.num

-- .. and of a control endpoint all that stands of it
pub record IsNewHead (parts : StructureSets) (x : Endpoint) : Type 0 where
  pub speed : Speed  -- that of the device
  pub link : ℕ
  pub here : parts (32 * x.queue) (32 * x.queue) ≡ Some (QueueHead (queue_head (record x.desc { speed = speed }) link x.dummy))
  pub tail : parts (32 * x.queue) (32 * x.dummy) ≡ Some (Element dummy_qtd)
  pub only : (a : ℕ) (t : Qtd) → parts (32 * x.queue) a ≡ Some (Element t) → t ≡ dummy_qtd

pub record IsNewNow (now : StructureSets) (x : Endpoint) : Type 0 where
  pub speed : Speed
  pub queue : Qh
  pub here : now (32 * x.queue) (32 * x.queue) ≡ Some (QueueHead queue)
  pub end : endpoint_of queue ≡ endpoint_of (queue_head (record x.desc { speed = speed }) 0 x.dummy)
  pub idle : queue.token.active ≡ false
  pub unset : queue.token.missed ≡ false
  pub leads : qtd_link_of (next_pointer queue) ≡ To (32 * x.dummy)

pub not_with : (b c : Bool) → b ≡ false → (b || c) ≡ true → c ≡ true
not_with false c off on = on
not_with true c off on = absurd (true≢false off)

-- the inactive qTD is its only one
pub only_dummy : (n : ℕ) (q : Qh) (d b : ℕ) (t : Qtd)
    → with_structure (with_structure no_part n (QueueHead q)) d (Element dummy_qtd) b ≡ Some (Element t) → t ≡ dummy_qtd
only_dummy n q d b t here = by (b == d) (b == n) here
  where
    by : (own head : Bool) → (if own then Some (Element dummy_qtd) else if head then Some (QueueHead q) else None) ≡ Some (Element t)
        → t ≡ dummy_qtd
    by true head is = cc
    by false true is = absurd (cc)
    by false false is = absurd (cc)
