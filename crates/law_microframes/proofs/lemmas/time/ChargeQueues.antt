-- An event at the queue head of a high-speed interrupt endpoint in hand asks nothing and costs nothing, or makes one transaction, of at most its largest packet (EHCI 1.0, 4.10, 4.10.2
-- and 4.10.3; USB 2.0, 5.11.3).
use Rattle.std.proofs.Common.{◌≡◌, ℕ, ◌+◌, ◌%◌, ◌<◌, ◌≤◌, Bool, true, false, List, Option, Some, None, refl, ap, sym, subst, ◌∙◌, arith, inl, inr}
use Rattle.std.specs.Prelude.{min, nat_lt, ◌&&◌, ◌==◌, if◌then◌else◌}
use Rattle.std.proofs.lemmas.Bool.{and_parts}
use Rattle.std.proofs.lemmas.Bool.Decides.{nat_tests}
use Rattle.law_budgets.proofs.Common.{dearer, visit_index, visit_left, pid_few, priced, plain}
use Rattle.law_common.proofs.Numbers.{few_bytes, not_below}
use Rattle.usb_base.specs.Cost.{bus_time}
use Rattle.usb_base.specs.declared.packets.Ask.{Ask}
use Rattle.usb_base.specs.declared.packets.Dir.TheVariants as directions
use Rattle.usb_base.specs.declared.packets.EpKind.{EpKind}
use Rattle.usb_base.specs.declared.packets.EpKind.TheVariants.{Interrupt}
use Rattle.usb_base.specs.declared.packets.Pid.TheVariants.{In, Out}
use Rattle.usb_base.specs.declared.packets.Reply.{Reply}
use Rattle.usb_base.specs.declared.packets.Speed.TheVariants.{High}
use Rattle.usb_base.specs.declared.packets.Split.{Split}
use Rattle.usb_base.specs.declared.packets.Split.TheVariants.{Plain}
use Rattle.word_mem.specs.Memory.{Mem}
use Rattle.link_words.specs.declared.kinds.QtdLink.{QtdLink}
use Rattle.link_words.specs.declared.kinds.QtdLink.TheVariants as qtd_links
use Rattle.link_words.specs.Links.{qtd_link_of}
use Rattle.qh_qtd.specs.declared.qtd.Qtd.{Qtd}
use Rattle.qh_qtd.specs.declared.queue_head.Qh.{Qh}
use Rattle.toggle_error.specs.declared.host.HostSide.{HostSide}
use Rattle.toggle_error.specs.declared.host.Outcome.{Outcome}
use Rattle.transactions.specs.Asks.{pinged, token_pid, dir_of}
use Rattle.transactions.specs.Prices.{priced_bytes}
use Rattle.mem_queues.specs.Structures.{qtd_at_address, reaches_queue_head}
use Rattle.hc_copy.specs.declared.held.Held.{Held}
use Rattle.hc_copy.specs.declared.held.Transaction.{Transaction}
use Rattle.hc_copy.specs.Visits.{visit_at, next_pointer}
use Rattle.hc_copy.specs.Planning.{host_in, bytes_out, carries}
use Rattle.hc_copy.specs.Overlay.{advanced, settled_queue, moved}
use Rattle.hc_copy.specs.Transacting.{host_after, call_in}
use Rattle.hc_copy.specs.WriteBack.{moved_by, overlay_after}
use Rattle.hc_copy.specs.Buffer.{sending}
use Rattle.hc_masks.specs.Masks as masks
use Rattle.hc_interrupt.specs.declared.turns.Turn.{Turn}
use Rattle.hc_interrupt.specs.Turns.{microframe_of, turn_of, start_turn, planned, is_last_of}
use Rattle.hc_interrupt.specs.Copies.{with_split, interrupt_copy, goes_on, again_copy, most_of, is_full, failed}
use Rattle.bandwidth.specs.declared.placements.Placed.{Placed}
use Rattle.bandwidth.specs.Placements.{has}
use Rattle.periodic_walk.specs.declared.queue.QueueRow.{QueueRow}
use Rattle.periodic_walk.specs.declared.queue.QueueRow.TheVariants as rows
use Rattle.periodic_walk.specs.declared.state.HeldQueue.{HeldQueue}
use Rattle.periodic_walk.specs.declared.state.Hand.TheVariants as hands
use Rattle.periodic_walk.specs.Walk.{Walk}
use Rattle.periodic_walk.specs.Place.{FramePlace, reading, holding, faulted, passed, sent}
use Rattle.periodic_walk.specs.Queue.{turn_row, take_row, taken_row, settled_row, queue_row, queue_read, queue_effect, queue_left_by, transacted, with_queue, wrote_at, writing}
use Rattle.law_budgets.specs.visit_prices.Spent.{IsHeadOf, largest}
use Rattle.claims_world.specs.InTime.{is_late_at, is_late_queue, is_late_turn}
use Rattle.law_budgets.proofs.lemmas.visit_prices.Queues.{same_dir}
use Rattle.law_microframes.specs.time.Charges.{IsHeadInHand, HasRoom, TakesData, GoesOnOrEnds, RestsAt, WorksAt, IsPriced}
use Rattle.law_microframes.proofs.lemmas.time.ChainQueues.{moved_active}

-- ---- the price of its transaction

out_price : (ping : Bool) (size n : ℕ) → n ≤ size
    → bus_time High Interrupt (dir_of (token_pid Plain Out (pinged Interrupt ping))) (priced_bytes Plain (token_pid Plain Out (pinged Interrupt ping)) Interrupt size n) ≤ bus_time High Interrupt directions.In size
out_price true size n h = dearer 0 size (omega arith)
out_price false size n h = dearer n size h

planned_price : (q : Qh) → q.eps ≡ 2 → q.token.pid ≤ 1 → (planned q).price.0 ≤ bus_time High Interrupt directions.In q.max
planned_price q high tame =
    elim (pid_few q.token.pid tame) [
      | inl e ↦
          let same = priced q Out high e in
          omega (arith, same, out_price q.token.ping q.max (bytes_out Plain Out (host_in q)) (few_bytes (carries Plain Out q.token.ping) q.max q.token.total))
      | inr e ↦ let same = priced q In high e in omega (arith, same)
    ]

largest_is : (x : Placed) (q : Qh) → IsHeadOf x q → bus_time High Interrupt directions.In q.max ≡ largest x.want
largest_is x q head =
    ap (λ n. bus_time High Interrupt directions.In n) head.max ∙ (sym (same_dir x.want.dir x.want.max) ∙ ap (λ (k : EpKind). bus_time High k x.want.dir x.want.max) (sym head.kind))

pub most_price : (x : Placed) (q : Qh) → IsHeadOf x q → q.token.pid ≤ 1 → (planned q).price.0 ≤ largest x.want
most_price x q head tame = subst (λ n. (planned q).price.0 ≤ n) (largest_is x q head) (planned_price q head.high tame)

-- ---- it stays a queue head of the endpoint

settled_head : (x : Placed) (host : HostSide) (q : Qh) → IsHeadOf x q → IsHeadOf x (settled_queue host q)
unfolding settled_queue
settled_head x host q h = record { speed = h.speed; kind = h.kind; high = h.high; max = h.max; multi = h.multi; smask = h.smask }

settled_pid : (host : HostSide) (q : Qh) → (settled_queue host q).token.pid ≡ q.token.pid
unfolding settled_queue
settled_pid host q = refl

moved_head : (x : Placed) (n : ℕ) (q : Qh) → IsHeadOf x q → IsHeadOf x (moved q n)
unfolding moved
moved_head x n q h = record { speed = h.speed; kind = h.kind; high = h.high; max = h.max; multi = h.multi; smask = h.smask }

moved_pid : (n : ℕ) (q : Qh) → (moved q n).token.pid ≡ q.token.pid
unfolding moved
moved_pid n q = refl

advanced_head : (x : Placed) (q : Qh) (a : ℕ) (t : Qtd) → IsHeadOf x q → IsHeadOf x (advanced q a t)
unfolding advanced
advanced_head x q a t h = record { speed = h.speed; kind = h.kind; high = h.high; max = h.max; multi = h.multi; smask = h.smask }

advanced_pid : (q : Qh) (a : ℕ) (t : Qtd) → (advanced q a t).token.pid ≡ t.token.pid
unfolding advanced
advanced_pid q a t = refl

unsplit : (f : ℕ) (s : Split) (q : Qh) → s ≡ Plain → with_split f s q ≡ q
unfolding with_split
unsplit f s q e = subst (λ (x : Split). with_split f x q ≡ q) (sym e) refl

-- ---- what a row needs

record IsReady (x : Placed) (u : ℕ) (h : HeldQueue) (t : Transaction) : Type 0 where
  plan : t ≡ planned h.copy.queue_head
  active : h.copy.queue_head.token.active ≡ true
  fewer : h.made < x.want.multi
  own : has x.placement.smask (u % 8) ≡ true

abbrev Fits : Placed → ℕ → HeldQueue → QueueRow → Type 0
Fits x u h rows.Fault = Unit {0}
Fits x u h rows.Skip = Unit {0}
Fits x u h (rows.Advance a t) = t.token.pid ≤ 1
Fits x u h (rows.Transact t) = IsReady x u h t
Fits x u h rows.Miss = ⊥
Fits x u h (rows.WriteBack outcome) = h.made ≤ x.want.multi

timed_fits : (x : Placed) (u : ℕ) (h : HeldQueue) (late : Bool) → IsReady x u h (planned h.copy.queue_head) → Fits x u h (if late then rows.Skip else rows.Transact (planned h.copy.queue_head))
timed_fits x u h true ready = tt
timed_fits x u h false ready = ready

active_fits : (x : Placed) (u : ℕ) (h : HeldQueue) (a : ℕ) (t : Qtd) (b : Bool) → ((c : ℕ) (s : Qtd) → (if b then rows.Advance a t else rows.Skip) ≡ rows.Advance c s → s.token.pid ≤ 1)
    → Fits x u h (if b then rows.Advance a t else rows.Skip)
active_fits x u h a t true tame = tame a t refl
active_fits x u h a t false tame = tt

taken_fits : (x : Placed) (u : ℕ) (h : HeldQueue) (a : ℕ) (o : Option Qtd) → ((c : ℕ) (s : Qtd) → taken_row a o ≡ rows.Advance c s → s.token.pid ≤ 1) → Fits x u h (taken_row a o)
taken_fits x u h a None tame = tt
taken_fits x u h a (Some t) tame = active_fits x u h a t t.token.active tame

take_fits : (x : Placed) (u : ℕ) (h : HeldQueue) (m : Mem) (link : QtdLink) → ((c : ℕ) (s : Qtd) → take_row m link ≡ rows.Advance c s → s.token.pid ≤ 1) → Fits x u h (take_row m link)
take_fits x u h m qtd_links.End tame = tt
take_fits x u h m (qtd_links.To a) tame = taken_fits x u h a (qtd_at_address m a) tame

visit_fits : (x : Placed) (u : ℕ) (h : HeldQueue) (m : Mem) (left : ℕ) (may halted active : Bool) (link : QtdLink) → (may ≡ true → has x.placement.smask (u % 8) ≡ true) → h.copy.queue_head.token.active ≡ active
    → h.made < x.want.multi → ((c : ℕ) (s : Qtd) → turn_row m left h.copy.queue_head (start_turn (visit_at may halted active link)) ≡ rows.Advance c s → s.token.pid ≤ 1)
    → Fits x u h (turn_row m left h.copy.queue_head (start_turn (visit_at may halted active link)))
visit_fits x u h m left false halted active link own is fewer tame = tt
visit_fits x u h m left true true active link own is fewer tame = tt
visit_fits x u h m left true false true link own is fewer tame =
    timed_fits x u h (nat_lt left (planned h.copy.queue_head).price.0) (record { plan = refl; active = is; fewer = fewer; own = own refl })
visit_fits x u h m left true false false link own is fewer tame = take_fits x u h m link tame

high_turn : (f : ℕ) (q : Qh) → q.eps ≡ 2 → turn_of f q ≡ start_turn (visit_at (masks.has q.smask (microframe_of f)) q.token.halted q.token.active (qtd_link_of (next_pointer q)))
high_turn f q high = rw high refl

settled_fits : (x : Placed) (p : FramePlace) (h : HeldQueue) (o : Option Outcome) → IsHeadOf x h.copy.queue_head → HasRoom x.want.multi h.made o
    → ((c : ℕ) (s : Qtd) → settled_row p.memory p.walk.left p.walk.index h.copy.queue_head o ≡ rows.Advance c s → s.token.pid ≤ 1)
    → Fits x p.walk.index h (settled_row p.memory p.walk.left p.walk.index h.copy.queue_head o)
settled_fits x p h (Some outcome) head room tame = room
settled_fits x p h None head room tame =
    let q : Qh = h.copy.queue_head in
    let may : Bool = masks.has q.smask (microframe_of p.walk.index) in
    let turn : Turn = start_turn (visit_at may q.token.halted q.token.active (qtd_link_of (next_pointer q))) in
    let same = high_turn p.walk.index q head.high in
    let same_row : turn_row p.memory p.walk.left q (turn_of p.walk.index q) ≡ turn_row p.memory p.walk.left q turn = ap (λ (z : Turn). turn_row p.memory p.walk.left q z) same in
    subst (Fits x p.walk.index h) (sym same_row)
    (visit_fits x p.walk.index h p.memory p.walk.left may q.token.halted q.token.active (qtd_link_of (next_pointer q))
    (λ e. subst (λ mask. has mask (p.walk.index % 8) ≡ true) head.smask e) refl room
    (λ c s e. tame c s (same_row ∙ e)))

row_fits : (x : Placed) (p : FramePlace) (h : HeldQueue) → IsHeadInHand x h p.walk.index → TakesData p (hands.Queue h) → Fits x p.walk.index h (queue_row p h)
row_fits x p h held tame = settled_fits x p h h.copy.settled held.head held.room tame

-- ---- a qTD is taken

took_priced : (x : Placed) (p written : FramePlace) (h : HeldQueue) (a : ℕ) (t : Qtd) (b : Bool) → written.walk ≡ p.walk → IsHeadInHand x h p.walk.index → t.token.pid ≤ 1
    → RestsAt x p (hands.Queue h) (if b then record written { walk = holding (hands.Queue (with_queue h (advanced h.copy.queue_head a t))) p.walk } else faulted written)
took_priced x p written h a t true same held tame = record {
  left = refl;
  index = refl;
  hand = record {
    of = record {
      head = advanced_head x h.copy.queue_head a t held.head;
      few = held.few;
      pid = λ active. subst (λ (i : ℕ). i ≤ 1) (sym (advanced_pid h.copy.queue_head a t)) tame;
      room = held.room;
      own = held.own;
    };
    made = refl;
    address = refl;
  };
}
took_priced x p written h a t false same held tame = record { left = ap (λ (w : Walk). w.left) same; index = ap (λ (w : Walk). w.index) same; hand = tt }

-- ---- a write-back

going : (made : ℕ) (q : Qh) (outcome : Outcome) → q.eps ≡ 2 → goes_on made q outcome ≡ true → made < most_of q
going made q outcome high e =
    let parts = and_parts q.token.active (if q.eps == 2 then is_full q outcome && nat_lt made (most_of q) else q.token.split_state && failed outcome) e in
    let full : (is_full q outcome && nat_lt made (most_of q)) ≡ true = rw high at parts.1 in
    let less : nat_lt made (most_of q) ≡ true = (and_parts (is_full q outcome) (nat_lt made (most_of q)) full).1 in
    grind (arith, nat_tests, less)

visited : (x : Placed) (u : ℕ) (h : HeldQueue) (outcome : Outcome) (w : Walk) (b : Bool) → goes_on h.made h.copy.queue_head outcome ≡ b → IsHeadInHand x h u
    → GoesOnOrEnds x u (hands.Queue h) (if b then holding (hands.Queue (record h { copy = again_copy outcome h.copy })) w else passed h.copy.queue_head.link w).hand
visited x u h outcome w true e held =
    let less = going h.made h.copy.queue_head outcome held.head.high e in
    record {
      of = record {
        head = moved_head x (moved_by outcome) h.copy.queue_head held.head;
        few = held.few;
        pid = λ active.
            subst (λ (i : ℕ). i ≤ 1) (sym (moved_pid (moved_by outcome) h.copy.queue_head)) (held.pid (sym (moved_active h.copy.queue_head (moved_by outcome)) ∙ active));
        room = omega (arith, less, held.head.multi);
        own = held.own;
      };
      made = refl;
      address = refl;
    }
visited x u h outcome w false e held = tt

wrote_priced : (x : Placed) (p there : FramePlace) (all : Bool) (h : HeldQueue) (outcome : Outcome) → there.walk ≡ p.walk → IsHeadInHand x h p.walk.index → RestsAt x p (hands.Queue h) (wrote_at all h outcome there)
wrote_priced x p there true h outcome same held = record {
  left = visit_left h outcome there.walk (goes_on h.made h.copy.queue_head outcome) ∙ ap (λ (w : Walk). w.left) same;
  index = visit_index h outcome there.walk (goes_on h.made h.copy.queue_head outcome) ∙ ap (λ (w : Walk). w.index) same;
  hand = visited x p.walk.index h outcome there.walk (goes_on h.made h.copy.queue_head outcome) refl held;
}
wrote_priced x p there false h outcome same held = record { left = ap (λ (w : Walk). w.left) same; index = ap (λ (w : Walk). w.index) same; hand = tt }

-- ---- a transaction

transacted_head : (x : Placed) (f : ℕ) (t : Transaction) (out : List ℕ) (reply : Reply) (h : Held) → t.split ≡ Plain → IsHeadOf x h.queue_head → IsHeadOf x (interrupt_copy f t out reply h).queue_head
transacted_head x f t out reply h e head =
    let host : HostSide = host_after t out (is_last_of f h.queue_head) reply in
    subst (IsHeadOf x) (sym (unsplit f t.split (settled_queue host h.queue_head) e)) (settled_head x host h.queue_head head)

transacted_pid : (f : ℕ) (t : Transaction) (out : List ℕ) (reply : Reply) (h : Held) → t.split ≡ Plain → (interrupt_copy f t out reply h).queue_head.token.pid ≡ h.queue_head.token.pid
transacted_pid f t out reply h e =
    let host : HostSide = host_after t out (is_last_of f h.queue_head) reply in
    ap (λ (q : Qh). q.token.pid) (unsplit f t.split (settled_queue host h.queue_head) e) ∙ settled_pid host h.queue_head

one_more : (made most : ℕ) → made < most → most ≤ 3 → min (made + 1) 255 ≡ made + 1
one_more made most less few = omega (arith, less, few)

works : (x : Placed) (p there : FramePlace) (h : HeldQueue) (t : Transaction) (out : List ℕ) (reply : Reply) → there.walk ≡ p.walk → IsHeadInHand x h p.walk.index → IsReady x p.walk.index h t
    → WorksAt x p (hands.Queue h) (queue_left_by t out h there reply)
works x p there h t out reply same held ready =
    let few = held.pid ready.active in
    let split : t.split ≡ Plain = ap (λ (s : Transaction). s.split) ready.plan ∙ plain h.copy.queue_head held.head.high in
    let price : t.price.0 ≤ largest x.want = subst (λ (s : Transaction). s.price.0 ≤ largest x.want) (sym ready.plan) (most_price x h.copy.queue_head held.head few) in
    let left = ap (λ (w : Walk). w.left) same in
    let one = one_more h.made x.want.multi ready.fewer held.few in
    record {
      own = ready.own;
      most = omega (arith, price, left);
      left = omega (arith, left);
      index = ap (λ (w : Walk). w.index) same;
      copy = hands.Queue (transacted there.walk.index t out reply h);
      hand = refl;
      going = record {
        of = record {
          head = transacted_head x there.walk.index t out reply h.copy split held.head;
          few = held.few;
          pid = λ active. subst (λ (i : ℕ). i ≤ 1) (sym (transacted_pid there.walk.index t out reply h.copy split)) few;
          room = omega (arith, one, ready.fewer);
          own = λ some. ready.own;
        };
        made = one;
        address = refl;
      };
      slot = tt;
    }

sent_priced : (x : Placed) (p there : FramePlace) (h : HeldQueue) (t : Transaction) (all : Bool) (ask : Ask) (asked out : List ℕ) → there.walk ≡ p.walk → IsHeadInHand x h p.walk.index → IsReady x p.walk.index h t
    → IsPriced x p (hands.Queue h) (sent all ask asked (queue_left_by t out h there) there)
sent_priced x p there h t true ask asked out same held ready = λ reply. works x p there h t out reply same held ready
sent_priced x p there h t false ask asked out same held ready = record { left = ap (λ (w : Walk). w.left) same; index = ap (λ (w : Walk). w.index) same; hand = tt }

-- ---- any event

row_priced : (x : Placed) (p : FramePlace) (m : Mem) (h : HeldQueue) (row : QueueRow) → IsHeadInHand x h p.walk.index → Fits x p.walk.index h row → IsPriced x p (hands.Queue h) (queue_effect row h (reading m p))
row_priced x p m h (rows.Advance a t) held fits =
    took_priced x p (record p { memory = overlay_after m h.copy.at (advanced h.copy.queue_head a t) }) h a t (reaches_queue_head m h.copy.at) refl held fits
row_priced x p m h (rows.Transact t) held fits =
    sent_priced x p (record p { memory = (sending t h.copy.queue_head m).memory }) h t (sending t h.copy.queue_head m).all
    (call_in t (sending t h.copy.queue_head m).bytes (is_last_of p.walk.index h.copy.queue_head)).ask
    (call_in t (sending t h.copy.queue_head m).bytes (is_last_of p.walk.index h.copy.queue_head)).out
    (sending t h.copy.queue_head m).bytes refl held fits
row_priced x p m h rows.Miss held fits = absurd fits
row_priced x p m h (rows.WriteBack outcome) held fits =
    wrote_priced x p (record p { memory = (writing h.copy outcome p.walk.reply m).memory }) (writing h.copy outcome p.walk.reply m).all h outcome refl held
row_priced x p m h _ held fits = record { left = refl; index = refl; hand = tt }

pub queue_priced : (x : Placed) (p : FramePlace) (h : HeldQueue) → IsHeadInHand x h p.walk.index → TakesData p (hands.Queue h) → IsPriced x p (hands.Queue h) (queue_effect (queue_row p h) h (reading (queue_read p h) p))
queue_priced x p h held tame = row_priced x p (queue_read p h) h (queue_row p h) held (row_fits x p h held tame)

-- ---- in time

late_turn : (x : Placed) (left : ℕ) (q : Qh) (may halted active : Bool) (link : QtdLink) → IsHeadOf x q → (active ≡ true → q.token.pid ≤ 1) → largest x.want ≤ left
    → is_late_turn left q (start_turn (visit_at may halted active link)) ≡ false
late_turn x left q false halted active link head pid enough = refl
late_turn x left q true true active link head pid enough = refl
late_turn x left q true false true link head pid enough = let price = most_price x q head (pid refl) in not_below left (planned q).price.0 (omega (arith, price, enough))
late_turn x left q true false false link head pid enough = refl

late_settled : (x : Placed) (left f : ℕ) (q : Qh) (o : Option Outcome) → IsHeadOf x q → (q.token.active ≡ true → q.token.pid ≤ 1) → largest x.want ≤ left → is_late_queue left f q o ≡ false
late_settled x left f q (Some outcome) head pid enough = refl
late_settled x left f q None head pid enough =
    ap (λ (z : Turn). is_late_turn left q z) (high_turn f q head.high)
    ∙ late_turn x left q (masks.has q.smask (microframe_of f)) q.token.halted q.token.active (qtd_link_of (next_pointer q)) head pid enough

pub queue_in_time : (x : Placed) (p : FramePlace) (h : HeldQueue) → IsHeadInHand x h p.walk.index → largest x.want ≤ p.walk.left → is_late_at p (Some (hands.Queue h)) ≡ false
queue_in_time x p h held enough = late_settled x p.walk.left p.walk.index h.copy.queue_head h.copy.settled held.head held.pid enough
