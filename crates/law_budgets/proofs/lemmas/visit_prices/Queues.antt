-- A visit to the queue head of a high-speed interrupt endpoint: up to Mult transactions, each of at most its largest packet.
use Rattle.std.proofs.Common.{◌≡◌, ℕ, ◌+◌, ◌-◌, ◌*◌, ◌<◌, ◌≤◌, Bool, true, false, List, Option, Some, None, refl, ap, sym, subst, ◌∙◌, arith, inl, inr, ◌⊎◌}
use Rattle.std.specs.Prelude.{nat_lt, ◌&&◌, ◌==◌, if◌then◌else◌}
use Rattle.std.proofs.lemmas.Bool.{and_parts}
use Rattle.std.proofs.lemmas.Bool.Decides.{nat_tests}
use Rattle.usb_base.specs.Cost.{bus_time}
use Rattle.usb_base.specs.declared.packets.Dir.{Dir}
use Rattle.usb_base.specs.declared.packets.Dir.TheVariants as directions
use Rattle.usb_base.specs.declared.packets.EpKind.TheVariants.{Interrupt}
use Rattle.usb_base.specs.declared.packets.Pid.TheVariants.{In, Out}
use Rattle.usb_base.specs.declared.packets.Reply.{Reply}
use Rattle.usb_base.specs.declared.packets.Speed.TheVariants.{High}
use Rattle.usb_base.specs.declared.packets.Split.{Split}
use Rattle.usb_base.specs.declared.packets.Split.TheVariants.{Plain}
use Rattle.link_words.specs.declared.kinds.QtdLink.{QtdLink}
use Rattle.qh_qtd.specs.declared.queue_head.Qh.{Qh}
use Rattle.toggle_error.specs.declared.host.HostSide.{HostSide}
use Rattle.toggle_error.specs.declared.host.Outcome.{Outcome}
use Rattle.transactions.specs.Asks.{pinged, token_pid, dir_of}
use Rattle.transactions.specs.Prices.{priced_bytes}
use Rattle.hc_copy.specs.declared.held.Held.{Held}
use Rattle.hc_copy.specs.declared.held.Transaction.{Transaction}
use Rattle.link_words.specs.Links.{qtd_link_of}
use Rattle.hc_copy.specs.Visits.{visit_at, next_pointer}
use Rattle.hc_copy.specs.Planning.{host_in, bytes_out, carries}
use Rattle.hc_copy.specs.Overlay.{settled_queue, moved}
use Rattle.hc_copy.specs.Transacting.{host_after, call_in}
use Rattle.hc_copy.specs.WriteBack.{moved_by}
use Rattle.hc_copy.specs.Buffer.{sending}
use Rattle.hc_interrupt.specs.declared.turns.Turn.{Turn}
use Rattle.hc_interrupt.specs.declared.turns.Turn.TheVariants as turns
use Rattle.hc_masks.specs.Masks.{has}
use Rattle.hc_interrupt.specs.Turns.{microframe_of, turn_of, start_turn, planned, is_last_of}
use Rattle.hc_interrupt.specs.Copies.{with_split, interrupt_copy, goes_on, again_copy, most_of, is_full, failed}
use Rattle.periodic_walk.specs.declared.queue.QueueRow.TheVariants as rows
use Rattle.periodic_walk.specs.declared.state.HeldQueue.{HeldQueue}
use Rattle.periodic_walk.specs.declared.state.Hand.{Hand}
use Rattle.periodic_walk.specs.declared.state.Hand.TheVariants as hands
use Rattle.periodic_walk.specs.Walk.{Walk}
use Rattle.periodic_walk.specs.Place.{FramePlace, reading, holding, passed, sent}
use Rattle.periodic_walk.specs.Rows.{effect_at, effect_of}
use Rattle.periodic_walk.specs.Queue.{turn_row, turn_read, settled_row, settled_read, queue_effect, queue_left_by, wrote_at, writing}
use Rattle.law_budgets.specs.visit_prices.Prices.{prices, Costs}
use Rattle.std.proofs.Math.Nat.{mul-le-mul_right}
use Rattle.law_common.proofs.Numbers.{not_below, few_bytes}
use Rattle.law_budgets.proofs.Common.{dearer, visit_index, pid_few, priced, plain}
use Rattle.claims_world.specs.InTime.{is_late, is_late_at, is_late_queue, is_late_turn}
use Rattle.law_budgets.proofs.lemmas.visit_prices.Visits.{Goes, along}
use Rattle.law_budgets.proofs.lemmas.visit_prices.Times.{IsHighHand, Keeps, Prompt}

-- ---- the price of its transaction

pub same_dir : (d : Dir) (n : ℕ) → bus_time High Interrupt d n ≡ bus_time High Interrupt directions.In n
same_dir directions.In n = refl
same_dir directions.Out n = refl

out_price : (ping : Bool) (size n : ℕ) → n ≤ size
    → bus_time High Interrupt (dir_of (token_pid Plain Out (pinged Interrupt ping))) (priced_bytes Plain (token_pid Plain Out (pinged Interrupt ping)) Interrupt size n) ≤ bus_time High Interrupt directions.In size
out_price true size n h = dearer 0 size (omega arith)
out_price false size n h = dearer n size h

pub record IsHigh (size most : ℕ) (q : Qh) : Type 0 where
  pub high : q.eps ≡ 2
  pub max : q.max ≡ size
  pub multi : most_of q ≡ most
  pub pid : q.token.pid ≤ 1

planned_price : (size most : ℕ) (q : Qh) → IsHigh size most q → (planned q).price.0 ≤ bus_time High Interrupt directions.In size
planned_price size most q h =
    subst (λ n. (planned q).price.0 ≤ bus_time High Interrupt directions.In n) h.max
    (elim (pid_few q.token.pid h.pid) [
      | inl e ↦
          let same = priced q Out h.high e in
          omega (arith, same, out_price q.token.ping q.max (bytes_out Plain Out (host_in q)) (few_bytes (carries Plain Out q.token.ping) q.max q.token.total))
      | inr e ↦ let same = priced q In h.high e in omega (arith, same)
    ])

-- ---- what a transaction and a write-back leave of the copy

settled_high : (size most : ℕ) (host : HostSide) (q : Qh) → IsHigh size most q → IsHigh size most (settled_queue host q)
unfolding settled_queue
settled_high size most host q h = record { high = h.high; max = h.max; multi = h.multi; pid = h.pid }

moved_high : (size most n : ℕ) (q : Qh) → IsHigh size most q → IsHigh size most (moved q n)
unfolding moved
moved_high size most n q h = record { high = h.high; max = h.max; multi = h.multi; pid = h.pid }

moved_active : (q : Qh) (n : ℕ) → (moved q n).token.active ≡ q.token.active
unfolding moved
moved_active q n = refl

unsplit : (f : ℕ) (s : Split) (q : Qh) → s ≡ Plain → with_split f s q ≡ q
unfolding with_split
unsplit f s q e = subst (λ (x : Split). with_split f x q ≡ q) (sym e) refl

transacted_high : (size most f : ℕ) (t : Transaction) (out : List ℕ) (reply : Reply) (h : Held) → t.split ≡ Plain → IsHigh size most h.queue_head → IsHigh size most (interrupt_copy f t out reply h).queue_head
transacted_high size most f t out reply h e high =
    let host : HostSide = host_after t out (is_last_of f h.queue_head) reply in
    subst (IsHigh size most) (sym (unsplit f t.split (settled_queue host h.queue_head) e)) (settled_high size most host h.queue_head high)

-- ---- under way

-- before a transaction its overlay is active, and where this microframe is its own there are transactions to come
abbrev pub Next : ℕ → ℕ → ℕ → ℕ → Qh → Option Outcome → Type 0
Next f most n made q None = (q.token.active ≡ true) × (has q.smask (microframe_of f) ≡ true → (1 ≤ n) × (most ≤ made + n))
Next f most n made q (Some outcome) = most ≤ made + n

pub record IsUnderWay (f size most n : ℕ) (h : HeldQueue) : Type 0 where
  pub high : IsHigh size most h.copy.queue_head
  pub few : most ≤ 255
  pub next : Next f most n h.made h.copy.queue_head h.copy.settled

abbrev pub InHand : ℕ → ℕ → ℕ → ℕ → Option Hand → Type 0
InHand f size most n None = Unit {0}
InHand f size most n (Some (hands.Queue h)) = IsUnderWay f size most n h
InHand f size most n (Some (hands.Itd h)) = ⊥
InHand f size most n (Some (hands.Sitd h)) = ⊥

pub record QueueVisit (f size most n : ℕ) (p : FramePlace) : Type 0 where
  pub index : p.walk.index ≡ f
  pub hand : InHand f size most n p.walk.hand

-- ---- a write-back

going : (made : ℕ) (q : Qh) (outcome : Outcome) → q.eps ≡ 2 → goes_on made q outcome ≡ true → (q.token.active ≡ true) × (made < most_of q)
going made q outcome high e =
    let parts = and_parts q.token.active (if q.eps == 2 then is_full q outcome && nat_lt made (most_of q) else q.token.split_state && failed outcome) e in
    let full : (is_full q outcome && nat_lt made (most_of q)) ≡ true = rw high at parts.1 in
    let less : nat_lt made (most_of q) ≡ true = (and_parts (is_full q outcome) (nat_lt made (most_of q)) full).1 in
    (parts.0, grind (arith, nat_tests, less))

visited : (f size most n : ℕ) (h : HeldQueue) (outcome : Outcome) (w : Walk) (b : Bool) → goes_on h.made h.copy.queue_head outcome ≡ b → IsHigh size most h.copy.queue_head → most ≤ 255 → most ≤ h.made + n
    → InHand f size most n (if b then holding (hands.Queue (record h { copy = again_copy outcome h.copy })) w else passed h.copy.queue_head.link w).hand
visited f size most n h outcome w true e high few left =
    let on = going h.made h.copy.queue_head outcome high.high e in
    record {
      high = moved_high size most (moved_by outcome) h.copy.queue_head high;
      few = few;
      next = (moved_active h.copy.queue_head (moved_by outcome) ∙ on.0, λ own. (omega (arith, on.1, high.multi, left), left));
    }
visited f size most n h outcome w false e high few left = tt

wrote_visit : (f size most n : ℕ) (all : Bool) (h : HeldQueue) (outcome : Outcome) (p : FramePlace) → p.walk.index ≡ f → IsHigh size most h.copy.queue_head → most ≤ 255 → most ≤ h.made + n
    → QueueVisit f size most n (wrote_at all h outcome p)
wrote_visit f size most n true h outcome p at high few left = record {
  index = visit_index h outcome p.walk (goes_on h.made h.copy.queue_head outcome) ∙ at;
  hand = visited f size most n h outcome p.walk (goes_on h.made h.copy.queue_head outcome) refl high few left;
}
wrote_visit f size most n false h outcome p at high few left = record { index = at; hand = tt }

-- ---- a transaction

transact_visit : (f size most n : ℕ) (t : Transaction) (out : List ℕ) (h : HeldQueue) (p : FramePlace) (reply : Reply) → t.split ≡ Plain → p.walk.index ≡ f → IsHigh size most h.copy.queue_head → most ≤ 255
    → 1 ≤ n → most ≤ h.made + n → QueueVisit f size most (n - 1) (queue_left_by t out h p reply)
transact_visit f size most n t out h p reply e at high few some left = record {
  index = at;
  hand = record {
    high = transacted_high size most p.walk.index t out reply h.copy e high;
    few = few;
    next = omega (arith, few, some, left);
  };
}

sent_goes : (f size most n : ℕ) (all : Bool) (t : Transaction) (out : List ℕ) (last : Bool) (h : HeldQueue) (p there : FramePlace) → t.split ≡ Plain → t.price.0 ≤ bus_time High Interrupt directions.In size
    → there.walk ≡ p.walk → p.walk.index ≡ f → IsHigh size most h.copy.queue_head → most ≤ 255 → 1 ≤ n → most ≤ h.made + n
    → Goes (QueueVisit f size most) (bus_time High Interrupt directions.In size) n p (sent all (call_in t out last).ask (call_in t out last).out (queue_left_by t out h there) there)
sent_goes f size most n true t out last h p there e price same at high few some left = (
  some,
  λ r. (
    omega (arith, price, ap (λ (w : Walk). w.left) same),
    transact_visit f size most n t out h there r e (ap (λ (w : Walk). w.index) same ∙ at) high few some left,
  ),
)
sent_goes f size most n false t out last h p there e price same at high few some left =
    record { index = ap (λ (w : Walk). w.index) same ∙ at; hand = tt }

timed_goes : (f size most n : ℕ) (late : Bool) (h : HeldQueue) (p there : FramePlace) → there.walk ≡ p.walk → p.walk.index ≡ f → IsHigh size most h.copy.queue_head → most ≤ 255 → 1 ≤ n → most ≤ h.made + n
    → Goes (QueueVisit f size most) (bus_time High Interrupt directions.In size) n p (queue_effect (if late then rows.Skip else rows.Transact (planned h.copy.queue_head)) h there)
timed_goes f size most n true h p there same at high few some left = record { index = ap (λ (w : Walk). w.index) same ∙ at; hand = tt }
timed_goes f size most n false h p there same at high few some left =
    let t : Transaction = planned h.copy.queue_head in
    sent_goes f size most n (sending t h.copy.queue_head there.memory).all t (sending t h.copy.queue_head there.memory).bytes (is_last_of there.walk.index h.copy.queue_head) h p
    (record there { memory = (sending t h.copy.queue_head there.memory).memory }) (plain h.copy.queue_head high.high) (planned_price size most h.copy.queue_head high) same at high few some left

-- ---- which turn it is

record IsWork (f : ℕ) (q : Qh) : Type 0 where
  turn : turn_of f q ≡ turns.Work
  own : has q.smask (microframe_of f) ≡ true

started : (may halted : Bool) (link : QtdLink) → (start_turn (visit_at may halted true link) ≡ turns.Rest) ⊎ ((start_turn (visit_at may halted true link) ≡ turns.Work) × (may ≡ true))
started false halted link = inl refl
started true true link = inl refl
started true false link = inr (refl, refl)

high_turn : (f : ℕ) (q : Qh) → q.eps ≡ 2 → q.token.active ≡ true → (turn_of f q ≡ turns.Rest) ⊎ IsWork f q
high_turn f q high active =
    let is : turn_of f q ≡ start_turn (visit_at (has q.smask (microframe_of f)) q.token.halted true (qtd_link_of (next_pointer q))) = rw (high, active) refl in
    elim (started (has q.smask (microframe_of f)) q.token.halted (qtd_link_of (next_pointer q))) [ inl e ↦ inl (is ∙ e) | inr e ↦ inr (record { turn = is ∙ e.0; own = e.1 }) ]

-- ---- any event

settled_goes : (f size most n : ℕ) (p : FramePlace) (h : HeldQueue) (o : Option Outcome) → p.walk.index ≡ f → IsHigh size most h.copy.queue_head → most ≤ 255 → Next f most n h.made h.copy.queue_head o
    → Goes (QueueVisit f size most) (bus_time High Interrupt directions.In size) n p
    (queue_effect (settled_row p.memory p.walk.left p.walk.index h.copy.queue_head o) h (reading (settled_read p.memory p.walk.index h.copy.queue_head o) p))
settled_goes f size most n p h (Some outcome) at high few next =
    wrote_visit f size most n (writing h.copy outcome p.walk.reply p.memory).all h outcome (record p { memory = (writing h.copy outcome p.walk.reply p.memory).memory }) at high few next
settled_goes f size most n p h None at high few next =
    elim (high_turn p.walk.index h.copy.queue_head high.high next.0) [
      | inl e ↦
          subst (λ (turn : Turn). Goes (QueueVisit f size most) (bus_time High Interrupt directions.In size) n p (queue_effect (turn_row p.memory p.walk.left h.copy.queue_head turn) h (reading (turn_read p.memory turn) p)))
          (sym e) (record { index = at; hand = tt })
      | inr e ↦
          let ready = next.1 (subst (λ k. has h.copy.queue_head.smask (microframe_of k) ≡ true) at e.own) in
          subst (λ (turn : Turn). Goes (QueueVisit f size most) (bus_time High Interrupt directions.In size) n p (queue_effect (turn_row p.memory p.walk.left h.copy.queue_head turn) h (reading (turn_read p.memory turn) p)))
          (sym e.turn)
          (timed_goes f size most n (nat_lt p.walk.left (planned h.copy.queue_head).price.0) h p (reading p.memory p) refl at high few ready.0 ready.1)
    ]

hand_goes : (f size most n : ℕ) (p : FramePlace) (hand : Hand) → p.walk.hand ≡ Some hand → QueueVisit f size most n p → Goes (QueueVisit f size most) (bus_time High Interrupt directions.In size) n p (effect_of p)
hand_goes f size most n p (hands.Queue h) e v =
    let way : IsUnderWay f size most n h = subst (InHand f size most n) e v.hand in
    subst (λ (o : Option Hand). Goes (QueueVisit f size most) (bus_time High Interrupt directions.In size) n p (effect_at p o)) (sym e)
    (settled_goes f size most n p h h.copy.settled v.index way.high way.few way.next)
hand_goes f size most n p _ e v = absurd (subst (InHand f size most n) e v.hand)

-- ---- a visit

queue_high : (f size most n : ℕ) (p : FramePlace) (hand : Hand) → p.walk.hand ≡ Some hand → QueueVisit f size most n p → IsHighHand hand
queue_high f size most n p (hands.Queue h) e v = tt
queue_high f size most n p _ e v = absurd (subst (InHand f size most n) e v.hand)

pub queue_keeps : (f size most : ℕ) → Keeps (QueueVisit f size most) (bus_time High Interrupt directions.In size)
queue_keeps f size most = record { high = λ n p hand e v. queue_high f size most n p hand e v; goes = λ n p hand e v. hand_goes f size most n p hand e v }

-- with time enough for one transaction none is late
pub enough_one : (n c left price : ℕ) → 1 ≤ n → n * c ≤ left → price ≤ c → price ≤ left
enough_one n c left price some enough small =
    let one : 1 * c ≤ n * c = mul-le-mul_right c some in omega (arith, one, enough, small)

settled_prompt : (f size most n : ℕ) (p : FramePlace) (h : HeldQueue) (o : Option Outcome) → p.walk.index ≡ f → IsHigh size most h.copy.queue_head → Next f most n h.made h.copy.queue_head o
    → n * bus_time High Interrupt directions.In size ≤ p.walk.left → is_late_queue p.walk.left p.walk.index h.copy.queue_head o ≡ false
settled_prompt f size most n p h (Some outcome) at high next enough = refl
settled_prompt f size most n p h None at high next enough =
    elim (high_turn p.walk.index h.copy.queue_head high.high next.0) [
      | inl e ↦ subst (λ (turn : Turn). is_late_turn p.walk.left h.copy.queue_head turn ≡ false) (sym e) refl
      | inr e ↦
          let ready = next.1 (subst (λ k. has h.copy.queue_head.smask (microframe_of k) ≡ true) at e.own) in
          subst (λ (turn : Turn). is_late_turn p.walk.left h.copy.queue_head turn ≡ false) (sym e.turn)
          (not_below p.walk.left (planned h.copy.queue_head).price.0
          (enough_one n (bus_time High Interrupt directions.In size) p.walk.left (planned h.copy.queue_head).price.0 ready.0 enough (planned_price size most h.copy.queue_head high)))
    ]

hand_prompt : (f size most n : ℕ) (p : FramePlace) (hand : Hand) → p.walk.hand ≡ Some hand → QueueVisit f size most n p → n * bus_time High Interrupt directions.In size ≤ p.walk.left → is_late p ≡ false
hand_prompt f size most n p (hands.Queue h) e v enough =
    let way : IsUnderWay f size most n h = subst (InHand f size most n) e v.hand in
    subst (λ (o : Option Hand). is_late_at p o ≡ false) (sym e) (settled_prompt f size most n p h h.copy.settled v.index way.high way.next enough)
hand_prompt f size most n p _ e v enough = absurd (subst (InHand f size most n) e v.hand)

pub queue_prompt : (f size most : ℕ) → Prompt (QueueVisit f size most) (bus_time High Interrupt directions.In size)
queue_prompt f size most = record { keeps = queue_keeps f size most; prompt = λ n p hand e v enough. hand_prompt f size most n p hand e v enough }

-- a visit begins
pub queue_begins : (size most n : ℕ) (p : FramePlace) (h : HeldQueue) → p.walk.hand ≡ Some (hands.Queue h) → IsHigh size most h.copy.queue_head → most ≤ 255 → h.copy.settled ≡ None
    → h.made ≡ 0 → h.copy.queue_head.token.active ≡ true → (has h.copy.queue_head.smask (microframe_of p.walk.index) ≡ true → (1 ≤ n) × (most ≤ n)) → QueueVisit p.walk.index size most n p
queue_begins size most n p h e high few unsettled none active own = record {
  index = refl;
  hand =
      subst (InHand p.walk.index size most n) (sym e)
      (record {
        high = high;
        few = few;
        next =
            subst (Next p.walk.index most n h.made h.copy.queue_head) (sym unsettled)
            (active, λ is. let ready = own is in (ready.0, omega (arith, ready.1, none)));
      });
}

-- it costs at most so many transactions of the largest packet
pub queue_costs : (f size most n : ℕ) (p : FramePlace) (rs : List Reply) → QueueVisit f size most n p → Costs n (bus_time High Interrupt directions.In size) (prices p rs)
queue_costs f size most n p rs v = along (QueueVisit f size most) (bus_time High Interrupt directions.In size) (λ m q hand. hand_goes f size most m q hand) n p rs v
