-- Each event of the ring's walk is the same over memories that are the same in Lent blocks.
use Rattle.std.proofs.Common.{◌≡◌, ℕ, ◌+◌, ◌%◌, Bool, true, false, if◌then◌else◌, List, Option, None, Some, ap, refl, sym, subst, ◌∙◌}
use Rattle.std.specs.Prelude.{IfSome}
use Rattle.law_controller.proofs.Common.{cursor_aligned}
use Rattle.usb_base.specs.declared.packets.Ask.{Ask}
use Rattle.usb_base.specs.declared.packets.Reply.{Reply}
use Rattle.word_mem.specs.Memory.{Mem}
use Rattle.link_words.specs.declared.kinds.Link.{Link}
use Rattle.link_words.specs.declared.kinds.Link.TheVariants as links
use Rattle.link_words.specs.declared.kinds.QtdLink.{QtdLink}
use Rattle.link_words.specs.declared.kinds.QtdLink.TheVariants as qtd_links
use Rattle.link_words.specs.Links.{IsAligned, IsQtdAligned, qtd_link_of}
use Rattle.qh_qtd.specs.declared.qtd.Qtd.{Qtd}
use Rattle.qh_qtd.specs.declared.queue_head.Qh.{Qh}
use Rattle.op_registers.specs.RegisterFile.{RegisterFile}
use Rattle.toggle_error.specs.declared.host.Outcome.{Outcome}
use Rattle.mem_queues.specs.Structures.{reaches_queue_head}
use Rattle.hc_copy.specs.declared.held.Held.{Held}
use Rattle.hc_copy.specs.declared.held.Transaction.{Transaction}
use Rattle.hc_copy.specs.declared.held.Visit.{Visit}
use Rattle.hc_copy.specs.declared.held.Visit.TheVariants as visits
use Rattle.hc_copy.specs.Visits.{next_pointer, visit_at, visit_of}
use Rattle.hc_copy.specs.Overlay.{advanced, pages_of, buffer_place}
use Rattle.hc_copy.specs.Buffer.{Reading, Writing, sending}
use Rattle.hc_copy.specs.WriteBack.{received}
use Rattle.hc_copy.specs.Transacting.{call_in}
use Rattle.async_walk.specs.declared.rows.WalkRow.{WalkRow}
use Rattle.async_walk.specs.declared.rows.WalkRow.TheVariants as rows
use Rattle.async_walk.specs.declared.state.WalkStep.TheVariants as steps
use Rattle.async_walk.specs.Walk.{IsCursor}
use Rattle.async_walk.specs.Naks.{may_work}
use Rattle.async_walk.specs.Rows.{WalkPlace, cursor_link, started, started_registers, fetch_row, ring_row, taken_row, take_row, visit_row, held_row, row_at, ring_read, take_read, visit_read, held_read, read_at, faulted, took, wrote, wrote_place, wrote_settled, writing, transacted, after_walk_row, took_step, sent_step, wrote_step_settled, wrote_step, step_of, SentAt, Sends, Leads, at_event, event_row}
use Rattle.law_controller.specs.aligned_copies.Aligned.{IsQueueAligned, IsCopyAligned, IsRingAligned}
use Rattle.law_controller.proofs.lemmas.aligned_copies.Reading.{pointer_aligned}
use Rattle.claims_base.specs.Controller.{IsSameWhereLent}
use Rattle.law_controller.proofs.lemmas.lent_reads.Same.{same_both, read_same, AreSameRead, AreSameWritten}
use Rattle.law_controller.proofs.lemmas.lent_reads.Structures.{head_same, element_same, head_was_same, element_was_same, overlay_after_same, back_same}

-- ---- which row it is

ring_row_same : (m n : Mem) (reclamation : Bool) (l : Link) → IsSameWhereLent m n → IsAligned l → ring_row n reclamation l ≡ ring_row m reclamation l
ring_row_same m n reclamation (links.Qh a) k is = ap (fetch_row reclamation a) (head_same m n a k is)
ring_row_same m n reclamation _ k is = refl

take_row_same : (m n : Mem) (l : QtdLink) → IsSameWhereLent m n → IsQtdAligned l → take_row n l ≡ take_row m l
take_row_same m n qtd_links.End k is = refl
take_row_same m n (qtd_links.To a) k is = ap (taken_row a) (element_same m n a k is)

visit_row_same : (m n : Mem) (left : ℕ) (q : Qh) (may halted active : Bool) (l : QtdLink) → IsSameWhereLent m n → IsQtdAligned l
    → visit_row n left q (visit_at may halted active l) ≡ visit_row m left q (visit_at may halted active l)
visit_row_same m n left q false halted active l k is = refl
visit_row_same m n left q true true active l k is = refl
visit_row_same m n left q true false true l k is = refl
visit_row_same m n left q true false false l k is = take_row_same m n l k is

held_row_same : (m n : Mem) (left : ℕ) (q : Qh) (o : Option Outcome) → IsSameWhereLent m n → IsQueueAligned q → held_row n left q o ≡ held_row m left q o
held_row_same m n left q None k is = visit_row_same m n left q (may_work q) q.token.halted q.token.active (qtd_link_of (next_pointer q)) k (pointer_aligned q is)
held_row_same m n left q (Some s) k is = refl

abbrev over : WalkPlace → Mem → WalkPlace
over p n = record p { memory = n }

row_same : (p : WalkPlace) (n : Mem) (o : Option Held) → IsSameWhereLent p.memory n → p.registers.async_list_address % 32 ≡ 0 → IsCursor p.walk.cursor → IfSome o IsCopyAligned → row_at (over p n) o ≡ row_at p o
row_same p n None k start cursor is =
    ring_row_same p.memory n p.registers.reclamation (cursor_link p.registers p.walk.cursor) k (cursor_aligned p.registers p.walk.cursor start cursor)
row_same p n (Some h) k start cursor is = held_row_same p.memory n p.walk.left h.queue_head h.settled k is.queue

-- ---- what it reads leaves

ring_read_same : (m n : Mem) (l : Link) → IsSameWhereLent m n → IsSameWhereLent (ring_read m l) (ring_read n l)
ring_read_same m n (links.Qh a) k = head_was_same m n a k
ring_read_same m n _ k = k

take_read_same : (m n : Mem) (l : QtdLink) → IsSameWhereLent m n → IsSameWhereLent (take_read m l) (take_read n l)
take_read_same m n qtd_links.End k = k
take_read_same m n (qtd_links.To a) k = element_was_same m n a k

visit_read_same : (m n : Mem) (v : Visit) → IsSameWhereLent m n → IsSameWhereLent (visit_read m v) (visit_read n v)
visit_read_same m n (visits.Take l) k = take_read_same m n l k
visit_read_same m n _ k = k

held_read_same : (m n : Mem) (q : Qh) (o : Option Outcome) → IsSameWhereLent m n → IsSameWhereLent (held_read m q o) (held_read n q o)
held_read_same m n q None k = visit_read_same m n (visit_of (may_work q) q) k
held_read_same m n q (Some s) k = k

read_at_same : (p : WalkPlace) (n : Mem) (o : Option Held) → IsSameWhereLent p.memory n → IsSameWhereLent (read_at p o) (read_at (over p n) o)
read_at_same p n None k = ring_read_same p.memory n (cursor_link p.registers p.walk.cursor) k
read_at_same p n (Some h) k = held_read_same p.memory n h.queue_head h.settled k

-- ---- what stands after it

pub record AreAlike (p q : WalkPlace) : Type 0 where
  pub walk : q.walk ≡ p.walk
  pub registers : q.registers ≡ p.registers
  pub memory : IsSameWhereLent p.memory q.memory

alike : (p : WalkPlace) (m n : Mem) → IsSameWhereLent m n → AreAlike (over p m) (over p n)
alike p m n k = record { walk = refl; registers = refl; memory = k }

alike_if : (x y z v : WalkPlace) (a b : Bool) → b ≡ a → AreAlike x y → AreAlike z v → AreAlike (if a then x else z) (if b then y else v)
alike_if x y z v a b is one other = subst (λ (t : Bool). AreAlike (if a then x else z) (if t then y else v)) (sym is) (by a)
  where
    by : (t : Bool) → AreAlike (if t then x else z) (if t then y else v)
    by true = one
    by false = other

took_alike : (a : ℕ) (t : Qtd) (p : WalkPlace) (n : Mem) (o : Option Held) → IsSameWhereLent p.memory n → AreAlike (took a t p o) (took a t (over p n) o)
took_alike a t p n None k = record { walk = refl; registers = refl; memory = k }
took_alike a t p n (Some h) k =
    let writes = overlay_after_same p.memory n h.at (advanced h.queue_head a t) k in
    alike_if _ _ _ _ (reaches_queue_head p.memory h.at) (reaches_queue_head n h.at) (same_both p.memory n h.at (h.at + 32) k)
    (record { walk = refl; registers = refl; memory = writes }) (record { walk = refl; registers = refl; memory = writes })

wrote_by : (p : WalkPlace) (m n : Mem) (b : Bool) (q : Qh) (outcome : Outcome) → IsSameWhereLent m n → AreAlike (wrote_place b q outcome (over p m)) (wrote_place b q outcome (over p n))
wrote_by p m n true q outcome k = record { walk = refl; registers = refl; memory = k }
wrote_by p m n false q outcome k = record { walk = refl; registers = refl; memory = k }

settled_alike : (p : WalkPlace) (n : Mem) (h : Held) (o : Option Outcome) → IsSameWhereLent p.memory n → AreAlike (wrote_settled p h o) (wrote_settled (over p n) h o)
settled_alike p n h None k = record { walk = refl; registers = refl; memory = k }
settled_alike p n h (Some outcome) k =
    let w : Writing = writing h outcome p.walk.reply p.memory in
    let v : Writing = writing h outcome p.walk.reply n in
    let same : AreSameWritten w v = back_same h.at h.queue_head outcome (received h.queue_head outcome p.walk.reply) p.memory n k in
    subst (λ (b : Bool). AreAlike (wrote_place w.all h.queue_head outcome (over p w.memory)) (wrote_place b h.queue_head outcome (over p v.memory))) (sym same.all)
    (wrote_by p w.memory v.memory w.all h.queue_head outcome same.memory)

wrote_alike : (p : WalkPlace) (n : Mem) (o : Option Held) → IsSameWhereLent p.memory n → AreAlike (wrote p o) (wrote (over p n) o)
wrote_alike p n None k = record { walk = refl; registers = refl; memory = k }
wrote_alike p n (Some h) k = settled_alike p n h h.settled k

-- the rows that don't ask the wire
after_alike : (row : WalkRow) (p : WalkPlace) (n : Mem) → IsSameWhereLent p.memory n → AreAlike (after_walk_row row p) (after_walk_row row (over p n))
after_alike (rows.Advance a t) p n k = took_alike a t p n p.walk.held k
after_alike rows.WriteBack p n k = wrote_alike p n p.walk.held k
after_alike _ p n k = record { walk = refl; registers = refl; memory = k }

alike_from : (new expected other : WalkPlace) → new ≡ expected → AreAlike expected other → AreAlike new other
alike_from new expected other is same = subst (λ (x : WalkPlace). AreAlike x other) (sym is) same

-- ---- a row over another memory

pub record GoesAlike {W : Type 0} (transacts : W → Ask → List ℕ → Reply → W → Type 0) (row : WalkRow) (p : WalkPlace) (before : W) (new : WalkPlace) (after : W) : Type 0 where
  pub other : WalkPlace
  pub made : Leads transacts row p before other after
  pub same : AreAlike new other

module _ {W : Type 0} (transacts : W → Ask → List ℕ → Reply → W → Type 0) (p : WalkPlace) (n : Mem) (before : W) (new : WalkPlace) (after : W) (k : IsSameWhereLent p.memory n) where
  -- what is sent by the other memory
  record SendsAlike (b : Bool) (t : Transaction) (h : Held) (read : Reading) : Type 0 where
    other : WalkPlace
    made : SentAt transacts b t h read (over p n) before other after
    same : AreAlike new other

  sent_alike : (b : Bool) (t : Transaction) (h : Held) (x y : Reading) → x.all ≡ b → AreSameRead x y → SentAt transacts b t h x p before new after → SendsAlike b t h y
  sent_alike true t h x y all read sent =
      let bytes : y.bytes ≡ x.bytes = read.bytes all in
      record {
        other = transacted t h y.bytes sent.reply (over p y.memory);
        made = record {
          reply = sent.reply;
          made = subst (λ (out : List ℕ). transacts before (call_in t out false).ask (call_in t out false).out sent.reply after) (sym bytes) sent.made;
          place = refl;
        };
        same = alike_from new (transacted t h x.bytes sent.reply (over p x.memory)) _ sent.place
            (subst (λ (out : List ℕ). AreAlike (transacted t h x.bytes sent.reply (over p x.memory)) (transacted t h out sent.reply (over p y.memory))) (sym bytes)
            (record { walk = refl; registers = refl; memory = read.memory }));
      }
  sent_alike false t h x y all read sent = record {
    other = faulted (over p y.memory);
    made = (refl, sent.1);
    same = alike_from new (faulted (over p x.memory)) _ sent.0 (record { walk = refl; registers = refl; memory = read.memory });
  }

  record SendAlike (t : Transaction) (o : Option Held) : Type 0 where
    other : WalkPlace
    made : Sends transacts t (over p n) o before other after
    same : AreAlike new other

  sends_alike : (t : Transaction) (o : Option Held) → Sends transacts t p o before new after → SendAlike t o
  sends_alike t None sends = record { other = over p n; made = (refl, sends.1); same = alike_from new p (over p n) sends.0 (alike p p.memory n k) }
  sends_alike t (Some h) sends =
      let x : Reading = sending t h.queue_head p.memory in
      let y : Reading = sending t h.queue_head n in
      let read : AreSameRead x y = read_same p.memory n (pages_of h.queue_head) (buffer_place h.queue_head) t.bytes k in
      let s : SendsAlike x.all t h y = sent_alike x.all t h x y refl read sends in
      record { other = s.other; made = subst (λ (b : Bool). SentAt transacts b t h y (over p n) before s.other after) (sym read.all) s.made; same = s.same }

  stays_alike : (row : WalkRow) → new ≡ after_walk_row row p → AreAlike new (after_walk_row row (over p n))
  stays_alike row is = alike_from new (after_walk_row row p) (after_walk_row row (over p n)) is (after_alike row p n k)

  pub row_goes_alike : (row : WalkRow) → Leads transacts row p before new after → GoesAlike transacts row (over p n) before new after
  row_goes_alike rows.Fault leads = record { other = after_walk_row rows.Fault (over p n); made = (refl, leads.1); same = stays_alike rows.Fault leads.0 }
  row_goes_alike rows.HeadEnds leads = record { other = after_walk_row rows.HeadEnds (over p n); made = (refl, leads.1); same = stays_alike rows.HeadEnds leads.0 }
  row_goes_alike (rows.Fetch a q) leads = record { other = after_walk_row (rows.Fetch a q) (over p n); made = (refl, leads.1); same = stays_alike (rows.Fetch a q) leads.0 }
  row_goes_alike rows.Skip leads = record { other = after_walk_row rows.Skip (over p n); made = (refl, leads.1); same = stays_alike rows.Skip leads.0 }
  row_goes_alike rows.OutOfTime leads = record { other = after_walk_row rows.OutOfTime (over p n); made = (refl, leads.1); same = stays_alike rows.OutOfTime leads.0 }
  row_goes_alike (rows.Advance a t) leads = record { other = after_walk_row (rows.Advance a t) (over p n); made = (refl, leads.1); same = stays_alike (rows.Advance a t) leads.0 }
  row_goes_alike (rows.Transact t) leads = let s : SendAlike t p.walk.held = sends_alike t p.walk.held leads in record { other = s.other; made = s.made; same = s.same }
  row_goes_alike rows.WriteBack leads = record { other = after_walk_row rows.WriteBack (over p n); made = (refl, leads.1); same = stays_alike rows.WriteBack leads.0 }

-- ---- what it answers

took_step_same : (m n : Mem) (o : Option Held) → IsSameWhereLent m n → took_step n o ≡ took_step m o
took_step_same m n None k = refl
took_step_same m n (Some h) k = ap (λ (b : Bool). if b then steps.Advance else steps.Fault) (same_both m n h.at (h.at + 32) k)

sent_step_same : (t : Transaction) (m n : Mem) (o : Option Held) → IsSameWhereLent m n → sent_step t n o ≡ sent_step t m o
sent_step_same t m n None k = refl
sent_step_same t m n (Some h) k =
    ap (λ (b : Bool). if b then steps.Transact else steps.Fault) (read_same m n (pages_of h.queue_head) (buffer_place h.queue_head) t.bytes k).all

wrote_step_by : (p : WalkPlace) (n : Mem) (h : Held) (o : Option Outcome) → IsSameWhereLent p.memory n → wrote_step_settled (over p n) h o ≡ wrote_step_settled p h o
wrote_step_by p n h None k = refl
wrote_step_by p n h (Some outcome) k =
    ap (λ (b : Bool). if b then steps.WriteBack else steps.Fault) (back_same h.at h.queue_head outcome (received h.queue_head outcome p.walk.reply) p.memory n k).all

wrote_step_same : (p : WalkPlace) (n : Mem) (o : Option Held) → IsSameWhereLent p.memory n → wrote_step (over p n) o ≡ wrote_step p o
wrote_step_same p n None k = refl
wrote_step_same p n (Some h) k = wrote_step_by p n h h.settled k

step_same : (row : WalkRow) (p : WalkPlace) (n : Mem) → IsSameWhereLent p.memory n → step_of row (over p n) ≡ step_of row p
step_same (rows.Advance a t) p n k = took_step_same p.memory n p.walk.held k
step_same (rows.Transact t) p n k = sent_step_same t p.memory n p.walk.held k
step_same rows.WriteBack p n k = wrote_step_same p n p.walk.held k
step_same _ p n k = refl

-- ---- an event

started_start : (b : Bool) (r : RegisterFile) → (started_registers b r).async_list_address ≡ r.async_list_address
started_start true r = refl
started_start false r = refl

pub record RingAlike {W : Type 0} (transacts : W → Ask → List ℕ → Reply → W → Type 0) (p : WalkPlace) (before : W) (new : WalkPlace) (after : W) : Type 0 where
  pub other : WalkPlace
  pub made : Leads transacts (event_row p) (at_event p) before other after
  pub same : AreAlike new other

event_row_same : (p : WalkPlace) (n : Mem) → IsSameWhereLent p.memory n → p.registers.async_list_address % 32 ≡ 0 → IsRingAligned p.walk → event_row (over p n) ≡ event_row p
event_row_same p n k start is =
    row_same (started p) n p.walk.held k (ap (λ (a : ℕ). a % 32) (started_start p.walk.first p.registers) ∙ start) is.cursor is.held

pub event_step_same : (p : WalkPlace) (n : Mem) → IsSameWhereLent p.memory n → p.registers.async_list_address % 32 ≡ 0 → IsRingAligned p.walk
    → step_of (event_row (record p { memory = n })) (at_event (record p { memory = n })) ≡ step_of (event_row p) (at_event p)
event_step_same p n k start is =
    ap (λ (r : WalkRow). step_of r (at_event (over p n))) (event_row_same p n k start is)
    ∙ step_same (event_row p) (at_event p) (read_at (started (over p n)) p.walk.held) (read_at_same (started p) n p.walk.held k)

pub ring_alike : {W : Type 0} (transacts : W → Ask → List ℕ → Reply → W → Type 0) (p : WalkPlace) (n : Mem) (before : W) (new : WalkPlace) (after : W) → IsSameWhereLent p.memory n → p.registers.async_list_address % 32 ≡ 0 → IsRingAligned p.walk
    → Leads transacts (event_row p) (at_event p) before new after → RingAlike transacts (record p { memory = n }) before new after
ring_alike transacts p n before new after k start is leads =
    let row : event_row (over p n) ≡ event_row p = event_row_same p n k start is in
    let read : IsSameWhereLent (read_at (started p) p.walk.held) (read_at (started (over p n)) p.walk.held) = read_at_same (started p) n p.walk.held k in
    let g : GoesAlike transacts (event_row p) (at_event (over p n)) before new after =
    row_goes_alike transacts (at_event p) (read_at (started (over p n)) p.walk.held) before new after read (event_row p) leads
    in record { other = g.other; made = subst (λ (r : WalkRow). Leads transacts r (at_event (over p n)) before g.other after) (sym row) g.made; same = g.same }
