-- An event at the queue head of an interrupt endpoint below a hub asks nothing and costs nothing, or makes one start-split or complete-split, which costs no more than the placement has for
-- its microframe; or it makes a complete-split again (EHCI 1.0, 4.10, 4.12.2 and 4.12.2.4; USB 2.0, 5.11.3).
use Rattle.std.proofs.Common.{◌≡◌, ℕ, ◌+◌, ◌%◌, ◌<◌, ◌≤◌, Bool, true, false, List, Option, Some, None, refl, ap, sym, subst, ◌∙◌, arith}
use Rattle.std.specs.Prelude.{min, not, nat_lt, ◌&&◌, ◌==◌, if◌then◌else◌}
use Rattle.std.proofs.lemmas.Bool.{and_parts, true≢false}
use Rattle.std.proofs.lemmas.Bool.Decides.{nat_tests}
use Rattle.law_budgets.proofs.Common.{visit_index}
use Rattle.law_common.proofs.Numbers.{most_limit}
use Rattle.usb_base.specs.Cost.{bus_time}
use Rattle.usb_base.specs.declared.packets.Ask.{Ask}
use Rattle.usb_base.specs.declared.packets.Dir.{Dir}
use Rattle.usb_base.specs.declared.packets.Dir.TheVariants as ways
use Rattle.usb_base.specs.declared.packets.EpKind.TheVariants.{Interrupt}
use Rattle.usb_base.specs.declared.packets.Reply.{Reply}
use Rattle.usb_base.specs.declared.packets.Speed.TheVariants.{High}
use Rattle.word_mem.specs.Memory.{Mem}
use Rattle.link_words.specs.declared.kinds.QtdLink.{QtdLink}
use Rattle.link_words.specs.declared.kinds.QtdLink.TheVariants as qtd_links
use Rattle.link_words.specs.Links.{qtd_link_of}
use Rattle.qh_qtd.specs.declared.qtd.Qtd.{Qtd}
use Rattle.qh_qtd.specs.declared.queue_head.Qh.{Qh}
use Rattle.toggle_error.specs.declared.host.HostSide.{HostSide}
use Rattle.toggle_error.specs.declared.host.Outcome.{Outcome}
use Rattle.mem_queues.specs.Structures.{qtd_at_address, reaches_queue_head}
use Rattle.hc_copy.specs.declared.held.Transaction.{Transaction}
use Rattle.hc_copy.specs.Visits.{visit_at, next_pointer}
use Rattle.hc_copy.specs.Overlay.{advanced, settled_queue}
use Rattle.hc_copy.specs.Transacting.{host_after, call_in}
use Rattle.hc_copy.specs.WriteBack.{moved_by, overlay_after}
use Rattle.hc_copy.specs.Buffer.{sending}
use Rattle.hc_masks.specs.Masks as masks
use Rattle.hc_interrupt.specs.Turns.{microframe_of, waits, is_missed, complete_turn, start_turn, planned, is_last_of}
use Rattle.hc_interrupt.specs.Copies.{interrupt_copy, goes_on, again_copy}
use Rattle.bandwidth.specs.declared.placements.Placed.{Placed}
use Rattle.bandwidth.specs.Placements.{has}
use Rattle.bandwidth.specs.Sums.{cost_in}
use Rattle.async_walk.specs.declared.state.WalkStep.TheVariants as steps
use Rattle.periodic_walk.specs.declared.queue.QueueRow.{QueueRow}
use Rattle.periodic_walk.specs.declared.queue.QueueRow.TheVariants as rows
use Rattle.periodic_walk.specs.declared.state.HeldQueue.{HeldQueue}
use Rattle.periodic_walk.specs.declared.state.Hand.{Hand}
use Rattle.periodic_walk.specs.declared.state.Hand.TheVariants as hands
use Rattle.periodic_walk.specs.Walk.{Walk}
use Rattle.periodic_walk.specs.Place.{FramePlace, reading, holding, faulted, passed, sent}
use Rattle.periodic_walk.specs.Place.Effect.{Leaves}
use Rattle.periodic_walk.specs.Queue.{turn_row, take_row, taken_row, settled_row, queue_row, queue_read, queue_step, queue_effect, queue_left_by, transacted, with_queue, wrote_at, writing, missed, miss_outcome}
use Rattle.periodic_walk.specs.Rows.{step_at, effect_at}
use Rattle.hc_core.specs.Controller.{hc_step}
use Rattle.claims_world.specs.Prices.{queue_bytes, price_of}
use Rattle.claims_world.specs.InTime.{is_late_at, is_late_queue, is_late_turn}
use Rattle.claims_world.specs.WithinLoad.{is_again}
use Rattle.law_microframes.specs.time.DataQueues.{pid_of}
use Rattle.law_microframes.proofs.lemmas.time.PriceTaken.{queue_price}
use Rattle.law_microframes.specs.time.SplitCharges.{IsSplitHeadOf, IsSplitInHand, at_split, TakesWay, added, IsPaidStill, GoesOnPaid, PaysBy, SplitsArePriced}
use Rattle.law_microframes.proofs.lemmas.time.SplitHeads.{start_by, complete_by, settled_head, settled_pid, moved_head, moved_pid, moved_active, advanced_head, advanced_pid, split_head, split_pid, missed_head, missed_active}

-- ---- what a row needs

record IsReady (x : Placed) (u : ℕ) (h : HeldQueue) (t : Transaction) : Type 0 where
  plan : t ≡ planned h.copy.queue_head
  active : h.copy.queue_head.token.active ≡ true
  most : price_of (hands.Queue h) ≤ cost_in x.want x.placement (u % 8)

abbrev Fits : Placed → ℕ → HeldQueue → QueueRow → Type 0
Fits x u h rows.Fault = Unit {0}
Fits x u h rows.Skip = Unit {0}
Fits x u h (rows.Advance a t) = t.token.pid ≡ pid_of x.want.dir
Fits x u h (rows.Transact t) = IsReady x u h t
Fits x u h rows.Miss = Unit {0}
Fits x u h (rows.WriteBack outcome) = Unit {0}

timed_fits : (x : Placed) (u : ℕ) (h : HeldQueue) (late : Bool) → IsReady x u h (planned h.copy.queue_head)
    → Fits x u h (if late then rows.Skip else rows.Transact (planned h.copy.queue_head))
timed_fits x u h true ready = tt
timed_fits x u h false ready = ready

active_fits : (x : Placed) (u : ℕ) (h : HeldQueue) (a : ℕ) (t : Qtd) (b : Bool)
    → ((c : ℕ) (s : Qtd) → (if b then rows.Advance a t else rows.Skip) ≡ rows.Advance c s → s.token.pid ≡ pid_of x.want.dir)
    → Fits x u h (if b then rows.Advance a t else rows.Skip)
active_fits x u h a t true way = way a t refl
active_fits x u h a t false way = tt

taken_fits : (x : Placed) (u : ℕ) (h : HeldQueue) (a : ℕ) (o : Option Qtd)
    → ((c : ℕ) (s : Qtd) → taken_row a o ≡ rows.Advance c s → s.token.pid ≡ pid_of x.want.dir) → Fits x u h (taken_row a o)
taken_fits x u h a None way = tt
taken_fits x u h a (Some t) way = active_fits x u h a t t.token.active way

take_fits : (x : Placed) (u : ℕ) (h : HeldQueue) (m : Mem) (link : QtdLink)
    → ((c : ℕ) (s : Qtd) → take_row m link ≡ rows.Advance c s → s.token.pid ≡ pid_of x.want.dir) → Fits x u h (take_row m link)
take_fits x u h m qtd_links.End way = tt
take_fits x u h m (qtd_links.To a) way = taken_fits x u h a (qtd_at_address m a) way

module _ (x : Placed) (u : ℕ) (h : HeldQueue) (head : IsSplitHeadOf x h.copy.queue_head)
    (pid : h.copy.queue_head.token.active ≡ true → h.copy.queue_head.token.pid ≡ pid_of x.want.dir) where
  abbrev q : Qh
  q = h.copy.queue_head

  small : u % 8 < 8
  small = omega arith

  -- ---- a start-split

  start_ready : q.token.active ≡ true → q.token.split_state ≡ false → masks.has q.smask (microframe_of u) ≡ true
      → IsReady x u h (planned h.copy.queue_head)
  start_ready active starts own = record {
    plan = refl;
    active = active;
    most = start_by x h.copy.queue_head (u % 8) x.want.dir refl head starts (pid active)
        (subst (λ mask. has mask (u % 8) ≡ true) head.smask own);
  }

  visit_fits : (m : Mem) (left : ℕ) (may halted active : Bool) (link : QtdLink) → (may ≡ true → masks.has q.smask (microframe_of u) ≡ true)
      → q.token.active ≡ active
      → (halted ≡ false → active ≡ true → q.token.split_state ≡ false)
      → ((c : ℕ) (s : Qtd) → turn_row m left h.copy.queue_head (start_turn (visit_at may halted active link)) ≡ rows.Advance c s
      → s.token.pid ≡ pid_of x.want.dir)
      → Fits x u h (turn_row m left h.copy.queue_head (start_turn (visit_at may halted active link)))
  visit_fits m left false halted active link own is starts way = tt
  visit_fits m left true true active link own is starts way = tt
  visit_fits m left true false true link own is starts way =
      timed_fits x u h (nat_lt left (planned h.copy.queue_head).price.0) (start_ready is (starts refl refl) (own refl))
  visit_fits m left true false false link own is starts way = take_fits x u h m link way

  -- ---- a complete-split

  complete_ready : q.token.active ≡ true → q.token.split_state ≡ true → masks.has q.cmask (microframe_of u) ≡ true
      → IsReady x u h (planned h.copy.queue_head)
  complete_ready active completes own =
      let mine : has x.placement.cmask (u % 8) ≡ true = subst (λ mask. has mask (u % 8) ≡ true) head.cmask own in
      record {
        plan = refl;
        active = active;
        most = complete_by x h.copy.queue_head (u % 8) x.want.dir refl head completes (pid active) (head.masks.apart (u % 8) small mine)
            mine;
      }

  complete_fits : (m : Mem) (left : ℕ) (gone own : Bool) → masks.has q.cmask (microframe_of u) ≡ own → q.token.active ≡ true
      → q.token.split_state ≡ true
      → Fits x u h (turn_row m left h.copy.queue_head (complete_turn gone own))
  complete_fits m left true own is active completes = tt
  complete_fits m left false true is active completes =
      timed_fits x u h (nat_lt left (planned h.copy.queue_head).price.0) (complete_ready active completes is)
  complete_fits m left false false is active completes = tt

  -- ---- either

  waiting : waits q ≡ true → (q.token.active ≡ true) × (q.token.split_state ≡ true)
  waiting is =
      let one = and_parts (not (q.eps == 2)) (q.token.split_state && (q.token.active && not q.token.halted)) is in
      let two = and_parts q.token.split_state (q.token.active && not q.token.halted) one.1 in
      ((and_parts q.token.active (not q.token.halted) two.1).0, two.0)

  starting : (split halted active : Bool) → (not (q.eps == 2) && (split && (active && not halted))) ≡ false → halted ≡ false
      → active ≡ true → split ≡ false
  starting false halted active off goes on = refl
  starting true false true off goes on = absurd (let e : (not (q.eps == 2) && true) ≡ true = rw head.below refl in true≢false (sym e ∙ off))
  starting true true active off goes on = absurd (true≢false goes)
  starting true false false off goes on = absurd (true≢false (sym on))

  turn_fits : (m : Mem) (left : ℕ) (b : Bool) → waits q ≡ b
      → ((c : ℕ) (s : Qtd) → turn_row m left h.copy.queue_head
      (if b then complete_turn (is_missed u h.copy.queue_head) (masks.has h.copy.queue_head.cmask (microframe_of u))
      else start_turn
      (visit_at (masks.has h.copy.queue_head.smask (microframe_of u)) h.copy.queue_head.token.halted h.copy.queue_head.token.active
      (qtd_link_of (next_pointer h.copy.queue_head))))
      ≡ rows.Advance c s → s.token.pid ≡ pid_of x.want.dir)
      → Fits x u h
      (turn_row m left h.copy.queue_head
      (if b then complete_turn (is_missed u h.copy.queue_head) (masks.has h.copy.queue_head.cmask (microframe_of u))
      else start_turn
      (visit_at (masks.has h.copy.queue_head.smask (microframe_of u)) h.copy.queue_head.token.halted h.copy.queue_head.token.active
      (qtd_link_of (next_pointer h.copy.queue_head)))))
  turn_fits m left true is way =
      let w = waiting is in complete_fits m left (is_missed u q) (masks.has q.cmask (microframe_of u)) refl w.0 w.1
  turn_fits m left false is way =
      visit_fits m left (masks.has q.smask (microframe_of u)) q.token.halted q.token.active (qtd_link_of (next_pointer q)) (λ own. own) refl
      (λ goes on. starting q.token.split_state q.token.halted q.token.active is goes on) way

  settled_fits : (p : FramePlace) (o : Option Outcome) → p.walk.index ≡ u
      → ((c : ℕ) (s : Qtd) → settled_row p.memory p.walk.left u h.copy.queue_head o ≡ rows.Advance c s → s.token.pid ≡ pid_of x.want.dir)
      → Fits x u h (settled_row p.memory p.walk.left u h.copy.queue_head o)
  settled_fits p (Some outcome) at way = tt
  settled_fits p None at way = turn_fits p.memory p.walk.left (waits q) refl way

row_fits : (x : Placed) (p : FramePlace) (h : HeldQueue) (paid : ℕ) → IsSplitInHand x h p.walk.index paid → TakesWay x p (hands.Queue h)
    → Fits x p.walk.index h (queue_row p h)
row_fits x p h paid held way = settled_fits x p.walk.index h held.head held.pid p h.copy.settled refl way

-- ---- where nothing is added

no_more : (b : Bool) → ◌≡◌ {A = ℕ} (if b then 0 else 0) 0
no_more true = refl
no_more false = refl

rests : (x : Placed) (u : ℕ) (hand : Hand) (paid more : ℕ) (q : FramePlace) → more ≡ 0 → q.walk.index ≡ u
    → IsPaidStill x u hand paid q.walk.hand → GoesOnPaid x u hand paid more q
rests x u hand paid more q none index held = record {
  index = index;
  held = let same : paid ≡ paid + more = omega (arith, none) in subst (λ (n : ℕ). IsPaidStill x u hand n q.walk.hand) same held;
  ends = λ over. none;
}

-- ---- a qTD is taken

took_pays : (x : Placed) (p written : FramePlace) (h : HeldQueue) (paid : ℕ) (a : ℕ) (t : Qtd) (b : Bool)
    → written.walk.index ≡ p.walk.index → IsSplitInHand x h p.walk.index paid
    → t.token.pid ≡ pid_of x.want.dir
    → PaysBy x p (hands.Queue h) paid (added (hc_step (if b then steps.Advance else steps.Fault)) (hands.Queue h))
    (Leaves (if b then record written { walk = holding (hands.Queue (with_queue h (advanced h.copy.queue_head a t))) p.walk } else faulted
    written))
took_pays x p written h paid a t true same held way =
    rests x p.walk.index (hands.Queue h) paid (added (hc_step steps.Advance) (hands.Queue h))
    (record written { walk = holding (hands.Queue (with_queue h (advanced h.copy.queue_head a t))) p.walk })
    (no_more (is_again (hands.Queue h))) refl (
      at_split (with_queue h (advanced h.copy.queue_head a t)) refl
          (record {
            head = advanced_head x h.copy.queue_head a t held.head;
            pid = λ active. advanced_pid h.copy.queue_head a t
                ∙ way;
            none = held.none;
            one = held.one;
          }),
      refl,
    )
took_pays x p written h paid a t false same held way =
    rests x p.walk.index (hands.Queue h) paid (added (hc_step steps.Fault) (hands.Queue h)) (faulted written)
    (no_more (is_again (hands.Queue h))) same tt

-- ---- a write-back

visited : (x : Placed) (u : ℕ) (h : HeldQueue) (outcome : Outcome) (w : Walk) (paid : ℕ) (b : Bool) → IsSplitInHand x h u paid
    → IsPaidStill x u (hands.Queue h) paid
    (if b then holding (hands.Queue (record h { copy = again_copy outcome h.copy })) w else passed h.copy.queue_head.link w).hand
visited x u h outcome w paid true held = (
  at_split (record h { copy = again_copy outcome h.copy }) refl
      (record {
        head = moved_head x (moved_by outcome) h.copy.queue_head held.head;
        pid = λ active. moved_pid (moved_by outcome) h.copy.queue_head
            ∙ held.pid (sym (moved_active h.copy.queue_head (moved_by outcome)) ∙ active);
        none = held.none;
        one = held.one;
      }),
  refl,
)
visited x u h outcome w paid false held = tt

wrote_pays : (x : Placed) (p there : FramePlace) (all : Bool) (h k : HeldQueue) (outcome : Outcome) (paid : ℕ)
    → there.walk.index ≡ p.walk.index → k.copy.at ≡ h.copy.at
    → IsSplitInHand x k p.walk.index paid
    → PaysBy x p (hands.Queue h) paid (added (hc_step (if all then steps.WriteBack else steps.Fault)) (hands.Queue h))
    (Leaves (wrote_at all k outcome there))
wrote_pays x p there true h k outcome paid same at held =
    rests x p.walk.index (hands.Queue h) paid (added (hc_step steps.WriteBack) (hands.Queue h)) (wrote_at true k outcome there)
    (no_more (is_again (hands.Queue h)))
    (visit_index k outcome there.walk (goes_on k.made k.copy.queue_head outcome) ∙ same)
    (still (wrote_at true k outcome there).walk.hand
    (visited x p.walk.index k outcome there.walk paid (goes_on k.made k.copy.queue_head outcome) held))
  where
    still : (o : Option Hand) → IsPaidStill x p.walk.index (hands.Queue k) paid o → IsPaidStill x p.walk.index (hands.Queue h) paid o
    still None s = tt
    still (Some hand) s = (s.0, s.1 ∙ at)
wrote_pays x p there false h k outcome paid same at held =
    rests x p.walk.index (hands.Queue h) paid (added (hc_step steps.Fault) (hands.Queue h)) (faulted there)
    (no_more (is_again (hands.Queue h))) same tt

missed_held : (x : Placed) (h : HeldQueue) (u paid : ℕ) → IsSplitInHand x h u paid → IsSplitInHand x (missed h) u paid
missed_held x h u paid held = record {
  head = missed_head x h.copy.queue_head held.head;
  pid = λ active. absurd (true≢false (sym active ∙ missed_active h.copy.queue_head));
  none = held.none;
  one = held.one;
}

-- ---- a transaction

one_more : (made : ℕ) → min (made + 1) 255 ≡ 0 → ⊥
one_more made none = omega (arith, none)

split_again : (h : HeldQueue) → (h.copy.queue_head.eps == 2) ≡ false → is_again (hands.Queue h) ≡ nat_lt 0 h.made
split_again h below = rw below refl

-- what it adds is the first transaction of the visit
added_most : (x : Placed) (h : HeldQueue) (u paid : ℕ) (b : Bool) → nat_lt 0 h.made ≡ b → (h.made ≡ 0 → paid ≡ 0)
    → paid ≤ cost_in x.want x.placement (u % 8)
    → price_of (hands.Queue h) ≤ cost_in x.want x.placement (u % 8)
    → paid + (if b then 0 else price_of (hands.Queue h)) ≤ cost_in x.want x.placement (u % 8)
added_most x h u paid true is none one most = omega (arith, one)
added_most x h u paid false is none one most =
    let first : h.made ≡ 0 = grind (arith, nat_tests, is) in
    let nothing = none first in
    omega (arith, nothing, most)

works : (x : Placed) (p there : FramePlace) (h : HeldQueue) (t : Transaction) (out : List ℕ) (reply : Reply) (paid : ℕ)
    → there.walk ≡ p.walk → IsSplitInHand x h p.walk.index paid
    → IsReady x p.walk.index h t → GoesOnPaid x p.walk.index (hands.Queue h) paid (added (hc_step steps.Transact) (hands.Queue h))
    (queue_left_by t out h there reply)
works x p there h t out reply paid same held ready =
    let host : HostSide = host_after t out (is_last_of there.walk.index h.copy.queue_head) reply in
    let pid : (interrupt_copy there.walk.index t out reply h.copy).queue_head.token.pid ≡ h.copy.queue_head.token.pid =
    split_pid there.walk.index t.split (settled_queue host h.copy.queue_head) ∙ settled_pid host h.copy.queue_head in
    let more : paid + added (hc_step steps.Transact) (hands.Queue h) ≤ cost_in x.want x.placement (p.walk.index % 8) =
    subst (λ (b : Bool). paid + (if b then 0 else price_of (hands.Queue h)) ≤ cost_in x.want x.placement (p.walk.index % 8))
    (sym (split_again h held.head.below))
    (added_most x h p.walk.index paid (nat_lt 0 h.made) refl held.none held.one ready.most) in
    record {
      index = ap (λ (w : Walk). w.index) same;
      held = (
        at_split (transacted there.walk.index t out reply h) refl
            (record {
              head = split_head x there.walk.index t.split (settled_queue host h.copy.queue_head)
                  (settled_head x host h.copy.queue_head held.head);
              pid = λ active. pid ∙ held.pid ready.active;
              none = λ made. absurd (one_more h.made made);
              one = more;
            }),
        refl,
      );
      ends = λ over. absurd (cc);
    }

sent_pays : (x : Placed) (p there : FramePlace) (h : HeldQueue) (t : Transaction) (all : Bool) (ask : Ask) (asked out : List ℕ) (paid : ℕ)
    → there.walk ≡ p.walk
    → IsSplitInHand x h p.walk.index paid → IsReady x p.walk.index h t
    → PaysBy x p (hands.Queue h) paid (added (hc_step (if all then steps.Transact else steps.Fault)) (hands.Queue h))
    (sent all ask asked (queue_left_by t out h there) there)
sent_pays x p there h t true ask asked out paid same held ready = λ reply. works x p there h t out reply paid same held ready
sent_pays x p there h t false ask asked out paid same held ready =
    rests x p.walk.index (hands.Queue h) paid (added (hc_step steps.Fault) (hands.Queue h)) (faulted there)
    (no_more (is_again (hands.Queue h))) (ap (λ (w : Walk). w.index) same) tt

-- ---- any event

row_pays : (x : Placed) (p : FramePlace) (m : Mem) (h : HeldQueue) (paid : ℕ) (row : QueueRow) → IsSplitInHand x h p.walk.index paid
    → Fits x p.walk.index h row
    → PaysBy x p (hands.Queue h) paid (added (hc_step (queue_step row h (reading m p))) (hands.Queue h)) (queue_effect row h (reading m p))
row_pays x p m h paid rows.Fault held fits =
    rests x p.walk.index (hands.Queue h) paid (added (hc_step steps.Fault) (hands.Queue h)) (faulted (reading m p))
    (no_more (is_again (hands.Queue h))) refl tt
row_pays x p m h paid rows.Skip held fits =
    rests x p.walk.index (hands.Queue h) paid (added (hc_step steps.Skip) (hands.Queue h))
    (record (reading m p) { walk = passed h.copy.queue_head.link p.walk })
    (no_more (is_again (hands.Queue h))) refl tt
row_pays x p m h paid (rows.Advance a t) held fits =
    took_pays x p (record p { memory = overlay_after m h.copy.at (advanced h.copy.queue_head a t) }) h paid a t
    (reaches_queue_head m h.copy.at) refl held fits
row_pays x p m h paid (rows.Transact t) held fits =
    sent_pays x p (record p { memory = (sending t h.copy.queue_head m).memory }) h t (sending t h.copy.queue_head m).all
    (call_in t (sending t h.copy.queue_head m).bytes (is_last_of p.walk.index h.copy.queue_head)).ask
    (call_in t (sending t h.copy.queue_head m).bytes (is_last_of p.walk.index h.copy.queue_head)).out
    (sending t h.copy.queue_head m).bytes paid refl held fits
row_pays x p m h paid rows.Miss held fits =
    wrote_pays x p (record p { memory = (writing (missed h).copy miss_outcome p.walk.reply m).memory })
    (writing (missed h).copy miss_outcome p.walk.reply m).all h (missed h) miss_outcome paid
    refl refl (missed_held x h p.walk.index paid held)
row_pays x p m h paid (rows.WriteBack outcome) held fits =
    wrote_pays x p (record p { memory = (writing h.copy outcome p.walk.reply m).memory }) (writing h.copy outcome p.walk.reply m).all h h
    outcome paid refl refl held

pub splits_are_priced : SplitsArePriced
splits_are_priced x p h paid is held way =
    subst (λ (o : Option Hand). PaysBy x p (hands.Queue h) paid (added (hc_step (step_at p o)) (hands.Queue h)) (effect_at p o)) (sym is)
    (row_pays x p (queue_read p h) h paid (queue_row p h) held (row_fits x p h paid held way))

-- ---- in time

pub split_short : (x : Placed) (h : HeldQueue) (u paid : ℕ) → IsSplitInHand x h u paid → h.copy.queue_head.token.active ≡ true
    → x.want.max ≤ 1024 → price_of (hands.Queue h) ≤ 21000000
split_short x h u paid held active few =
    short_by h.copy.queue_head x.want.dir h.copy.queue_head.token.split_state refl held.head.below (held.pid active)
    (omega (arith, few, held.head.max))
  where
    short : (n : ℕ) → n ≤ 1024 → bus_time High Interrupt ways.In n ≤ 21000000
    short n small = omega (arith, small)

    short_by : (q : Qh) (dir : Dir) (split : Bool) → q.token.split_state ≡ split → (q.eps == 2) ≡ false → q.token.pid ≡ pid_of dir
        → q.max ≤ 1024
        → bus_time High Interrupt ways.In (queue_bytes q) ≤ 21000000
    short_by q ways.In true is below pid small =
        short (queue_bytes q) (let same : queue_bytes q ≡ q.max = rw (below, is, pid) refl in omega (arith, same, small))
    short_by q ways.In false is below pid small =
        short (queue_bytes q) (let same : queue_bytes q ≡ 0 = rw (below, is, pid) refl in omega (arith, same))
    short_by q ways.Out true is below pid small =
        short (queue_bytes q) (let same : queue_bytes q ≡ 0 = rw (below, is, pid) refl in omega (arith, same))
    short_by q ways.Out false is below pid small =
        short (queue_bytes q)
        (let same : queue_bytes q ≡ min q.max q.token.total = rw (below, is, pid) refl in
        omega (arith, same, small, most_limit q.max q.token.total))

late_at : (left price cost : ℕ) → price ≡ cost → cost ≤ 21000000 → 21000000 ≤ left → nat_lt left price ≡ false
late_at left price cost is few enough = let least : price ≤ left = omega (arith, is, few, enough) in grind (arith, nat_tests, least)

module _ (x : Placed) (p : FramePlace) (h : HeldQueue) (paid : ℕ) (held : IsSplitInHand x h p.walk.index paid) (few : x.want.max ≤ 1024)
    (enough : 21000000 ≤ p.walk.left) where
  work_in_time : h.copy.queue_head.token.active ≡ true → nat_lt p.walk.left (planned h.copy.queue_head).price.0 ≡ false
  work_in_time active =
      late_at p.walk.left (planned h.copy.queue_head).price.0 (price_of (hands.Queue h)) (queue_price h.copy.queue_head)
      (split_short x h p.walk.index paid held active few) enough

  visit_in_time : (may halted active : Bool) (link : QtdLink) → h.copy.queue_head.token.active ≡ active
      → is_late_turn p.walk.left h.copy.queue_head (start_turn (visit_at may halted active link)) ≡ false
  visit_in_time false halted active link is = refl
  visit_in_time true true active link is = refl
  visit_in_time true false true link is = work_in_time is
  visit_in_time true false false link is = refl

  complete_in_time : (gone own : Bool) → h.copy.queue_head.token.active ≡ true
      → is_late_turn p.walk.left h.copy.queue_head (complete_turn gone own) ≡ false
  complete_in_time true own active = refl
  complete_in_time false true active = work_in_time active
  complete_in_time false false active = refl

  turn_in_time : (b : Bool) → waits h.copy.queue_head ≡ b
      → is_late_turn p.walk.left h.copy.queue_head
      (if b then complete_turn (is_missed p.walk.index h.copy.queue_head)
      (masks.has h.copy.queue_head.cmask (microframe_of p.walk.index))
      else start_turn
      (visit_at (masks.has h.copy.queue_head.smask (microframe_of p.walk.index)) h.copy.queue_head.token.halted
      h.copy.queue_head.token.active
      (qtd_link_of (next_pointer h.copy.queue_head)))) ≡ false
  turn_in_time true is =
      complete_in_time (is_missed p.walk.index h.copy.queue_head) (masks.has h.copy.queue_head.cmask (microframe_of p.walk.index))
      (waiting x p.walk.index h held.head held.pid is).0
  turn_in_time false is =
      visit_in_time (masks.has h.copy.queue_head.smask (microframe_of p.walk.index)) h.copy.queue_head.token.halted
      h.copy.queue_head.token.active
      (qtd_link_of (next_pointer h.copy.queue_head)) refl

  settled_in_time : (o : Option Outcome) → is_late_queue p.walk.left p.walk.index h.copy.queue_head o ≡ false
  settled_in_time None = turn_in_time (waits h.copy.queue_head) refl
  settled_in_time (Some outcome) = refl

  pub split_in_time : is_late_at p (Some (hands.Queue h)) ≡ false
  split_in_time = settled_in_time h.copy.settled
