-- Each event of the ring's walk leaves its addresses multiples of 32.
use Rattle.std.proofs.Common.{◌≡◌, ℕ, ◌%◌, Bool, true, false, List, Option, None, Some, ap, refl, sym, subst, ◌∙◌}
use Rattle.std.specs.Prelude.{IfSome, not, ◌&&◌, nat_lt}
use Rattle.law_controller.proofs.Common.{cursor_aligned}
use Rattle.law_common.proofs.Booleans.{either}
use Rattle.usb_base.specs.declared.packets.Ask.{Ask}
use Rattle.usb_base.specs.declared.packets.Reply.{Reply}
use Rattle.word_mem.specs.Memory.{Mem}
use Rattle.link_words.specs.declared.kinds.Link.{Link}
use Rattle.link_words.specs.declared.kinds.Link.TheVariants as links
use Rattle.link_words.specs.declared.kinds.QtdLink.{QtdLink}
use Rattle.link_words.specs.declared.kinds.QtdLink.TheVariants as qtd_links
use Rattle.link_words.specs.Links.{IsAligned, IsQtdAligned, qtd_link_of}
use Rattle.qh_qtd.specs.declared.qtd.Qtd.{Qtd}
use Rattle.qh_qtd.specs.declared.queue_head.Qh.{Qh}
use Rattle.op_registers.specs.RegisterFile.{RegisterFile}
use Rattle.op_registers.specs.Events.{after_advance, after_reclamation}
use Rattle.toggle_error.specs.declared.host.HostSide.{HostSide}
use Rattle.toggle_error.specs.declared.host.Outcome.{Outcome}
use Rattle.mem_queues.specs.Structures.{qtd_at_address, queue_head_at_address, reaches_queue_head}
use Rattle.hc_copy.specs.declared.held.Held.{Held}
use Rattle.hc_copy.specs.declared.held.Transaction.{Transaction}
use Rattle.hc_copy.specs.Visits.{next_pointer, visit_at}
use Rattle.hc_copy.specs.Overlay.{advanced, settled_queue}
use Rattle.hc_copy.specs.Buffer.{Reading, Writing, sending}
use Rattle.hc_copy.specs.WriteBack.{raised}
use Rattle.async_walk.specs.declared.rows.WalkRow.{WalkRow}
use Rattle.async_walk.specs.declared.rows.WalkRow.TheVariants as rows
use Rattle.async_walk.specs.declared.state.ReloadMode.{ReloadMode}
use Rattle.async_walk.specs.declared.state.ReloadMode.TheVariants.{Reload}
use Rattle.async_walk.specs.Walk.{Walk, IsCursor}
use Rattle.async_walk.specs.Naks.{may_work, mode_after, reloaded, counted_queue, planned}
use Rattle.async_walk.specs.Rows.{WalkPlace, cursor_link, started, started_registers, fetch_row, ring_row, work_row, taken_row, take_row, visit_row, held_row, row_at, faulted, head_read, fetched_registers, fetched, passed, passed_walk, took, wrote, wrote_place, wrote_settled, writing, ring_copy, transacted, SentAt, Sends, Leads, at_event, event_row}
use Rattle.law_controller.specs.aligned_copies.Aligned.{IsQueueAligned, IsElementAligned, IsCopyAligned, IsRingAligned}
use Rattle.law_controller.proofs.lemmas.aligned_copies.Reading.{link_aligned, pointer_aligned, heads_aligned, elements_aligned}

-- ---- which row it is

abbrev RowAligned : WalkRow → Type 0
RowAligned (rows.Fetch a q) = (a % 32 ≡ 0) × IsQueueAligned q
RowAligned (rows.Advance a t) = (a % 32 ≡ 0) × IsElementAligned t
RowAligned (rows.Transact t) = Unit {0}
RowAligned rows.Fault = Unit {0}
RowAligned rows.HeadEnds = Unit {0}
RowAligned rows.Skip = Unit {0}
RowAligned rows.OutOfTime = Unit {0}
RowAligned rows.WriteBack = Unit {0}

fetch_aligned : (reclamation : Bool) (a : ℕ) (o : Option Qh) → a % 32 ≡ 0 → IfSome o IsQueueAligned → RowAligned (fetch_row reclamation a o)
fetch_aligned reclamation a None at is = tt
fetch_aligned reclamation a (Some q) at is = either RowAligned (q.head && not reclamation) rows.HeadEnds (rows.Fetch a q) tt (at, is)

ring_aligned : (m : Mem) (reclamation : Bool) (l : Link) → IsAligned l → RowAligned (ring_row m reclamation l)
ring_aligned m reclamation (links.Qh a) is = fetch_aligned reclamation a (queue_head_at_address m a) is (heads_aligned m a)
ring_aligned m reclamation _ is = tt

taken_aligned : (a : ℕ) (o : Option Qtd) → a % 32 ≡ 0 → IfSome o IsElementAligned → RowAligned (taken_row a o)
taken_aligned a None at is = tt
taken_aligned a (Some t) at is = either RowAligned t.token.active (rows.Advance a t) rows.Skip (at, is) tt

take_aligned : (m : Mem) (l : QtdLink) → IsQtdAligned l → RowAligned (take_row m l)
take_aligned m qtd_links.End is = tt
take_aligned m (qtd_links.To a) is = taken_aligned a (qtd_at_address m a) is (elements_aligned m a)

work_aligned : (late : Bool) (t : Transaction) → RowAligned (work_row late t)
work_aligned true t = tt
work_aligned false t = tt

visit_aligned : (m : Mem) (left : ℕ) (q : Qh) (may halted active : Bool) (l : QtdLink) → IsQtdAligned l → RowAligned (visit_row m left q (visit_at may halted active l))
visit_aligned m left q false halted active l is = tt
visit_aligned m left q true true active l is = tt
visit_aligned m left q true false true l is = work_aligned (nat_lt left (planned q).price.0) (planned q)
visit_aligned m left q true false false l is = take_aligned m l is

held_aligned : (m : Mem) (left : ℕ) (q : Qh) (o : Option Outcome) → IsQueueAligned q → RowAligned (held_row m left q o)
held_aligned m left q None is = visit_aligned m left q (may_work q) q.token.halted q.token.active (qtd_link_of (next_pointer q)) (pointer_aligned q is)
held_aligned m left q (Some s) is = tt

row_aligned : (p : WalkPlace) (o : Option Held) → p.registers.async_list_address % 32 ≡ 0 → IsCursor p.walk.cursor → IfSome o IsCopyAligned → RowAligned (row_at p o)
row_aligned p None start cursor is = ring_aligned p.memory p.registers.reclamation (cursor_link p.registers p.walk.cursor) (cursor_aligned p.registers p.walk.cursor start cursor)
row_aligned p (Some h) start cursor is = held_aligned p.memory p.walk.left h.queue_head h.settled is.queue

-- ---- copies

pub advanced_aligned : (q : Qh) (a : ℕ) (t : Qtd) → IsQueueAligned q → a % 32 ≡ 0 → IsElementAligned t → IsQueueAligned (advanced q a t)
unfolding advanced
advanced_aligned q a t is at links = record { link = is.link; current = at; next = links.next; alternate = links.alternate }

pub settled_aligned : (host : HostSide) (q : Qh) → IsQueueAligned q → IsQueueAligned (settled_queue host q)
unfolding settled_queue
settled_aligned host q is = record { link = is.link; current = is.current; next = is.next; alternate = is.alternate }

counted_aligned : (counted : Bool) (q : Qh) → IsQueueAligned q → IsQueueAligned (counted_queue counted q)
unfolding counted_queue
counted_aligned counted q is = record { link = is.link; current = is.current; next = is.next; alternate = is.alternate }

reloaded_aligned : (mode : ReloadMode) (q : Qh) → IsQueueAligned q → IsQueueAligned (reloaded mode q)
unfolding reloaded
reloaded_aligned Reload q is = record { link = is.link; current = is.current; next = is.next; alternate = is.alternate }
reloaded_aligned _ q is = is

ring_copy_aligned : (t : Transaction) (out : List ℕ) (reply : Reply) (h : Held) → IsCopyAligned h → IsCopyAligned (ring_copy t out reply h)
ring_copy_aligned t out reply h is = record { at = is.at; queue = counted_aligned _ _ (settled_aligned _ h.queue_head is.queue) }

-- ---- registers

abbrev Start : RegisterFile → ℕ
Start r = r.async_list_address

started_start : (b : Bool) (r : RegisterFile) → Start (started_registers b r) ≡ Start r
started_start true r = refl
started_start false r = refl

head_start : (r : RegisterFile) → Start (head_read r) ≡ Start r
head_start r = either (λ (x : RegisterFile). Start x ≡ Start r) r.doorbell (after_advance r) r refl refl

fetched_start : (b : Bool) (r : RegisterFile) → Start (fetched_registers b r) ≡ Start r
fetched_start true r = head_start (after_reclamation r false)
fetched_start false r = refl

raised_start : (q : Qh) (outcome : Outcome) (r : RegisterFile) → Start (raised q outcome r) ≡ Start r
unfolding raised
raised_start q outcome r = refl

-- ---- what stands after a row

-- the walk's addresses are so, and the ring begins where it began
pub record Keeps (start : ℕ) (new : WalkPlace) : Type 0 where
  pub walk : IsRingAligned new.walk
  pub begins : Start new.registers ≡ start

goes_to : (start : ℕ) (new expected : WalkPlace) → new ≡ expected → Keeps start expected → Keeps start new
goes_to start new expected is keeps = subst (Keeps start) (sym is) keeps

faulted_keeps : (p : WalkPlace) → IsRingAligned p.walk → Keeps (Start p.registers) (faulted p)
faulted_keeps p is = record { walk = record { cursor = is.cursor; held = tt }; begins = refl }

passed_aligned : (w : Walk) (o : Option Held) → IsRingAligned w → IfSome o IsCopyAligned → IsRingAligned (passed_walk w o)
passed_aligned w None is held = is
passed_aligned w (Some h) is held = record { cursor = link_aligned h.queue_head.link held.queue.link; held = tt }

took_keeps : (a : ℕ) (t : Qtd) (p : WalkPlace) (o : Option Held) → IsRingAligned p.walk → IfSome o IsCopyAligned → (a % 32 ≡ 0) × IsElementAligned t → Keeps (Start p.registers) (took a t p o)
took_keeps a t p None is held row = record { walk = is; begins = refl }
took_keeps a t p (Some h) is held row =
    either (Keeps (Start p.registers)) (reaches_queue_head p.memory h.at) _ _
    (record { walk = record { cursor = is.cursor; held = record { at = held.at; queue = advanced_aligned h.queue_head a t held.queue row.0 row.1 } }; begins = refl })
    (record { walk = record { cursor = is.cursor; held = tt }; begins = refl })

wrote_by : (p : WalkPlace) (b : Bool) (q : Qh) (outcome : Outcome) (m : Mem) → IsRingAligned p.walk → Keeps (Start p.registers) (wrote_place b q outcome (record p { memory = m }))
wrote_by p true q outcome m is = record { walk = passed_aligned p.walk p.walk.held is is.held; begins = raised_start q outcome p.registers }
wrote_by p false q outcome m is = record { walk = record { cursor = is.cursor; held = tt }; begins = refl }

wrote_settled_keeps : (p : WalkPlace) (h : Held) (o : Option Outcome) → IsRingAligned p.walk → Keeps (Start p.registers) (wrote_settled p h o)
wrote_settled_keeps p h None is = record { walk = is; begins = refl }
wrote_settled_keeps p h (Some outcome) is =
    let w : Writing = writing h outcome p.walk.reply p.memory in
    wrote_by p w.all h.queue_head outcome w.memory is

wrote_keeps : (p : WalkPlace) (o : Option Held) → IsRingAligned p.walk → Keeps (Start p.registers) (wrote p o)
wrote_keeps p None is = record { walk = is; begins = refl }
wrote_keeps p (Some h) is = wrote_settled_keeps p h h.settled is

transacted_keeps : (t : Transaction) (h : Held) (out : List ℕ) (reply : Reply) (p : WalkPlace) (m : Mem) → IsRingAligned p.walk → IsCopyAligned h → Keeps (Start p.registers) (transacted t h out reply (record p { memory = m }))
transacted_keeps t h out reply p m is held = record { walk = record { cursor = is.cursor; held = ring_copy_aligned t out reply h held }; begins = refl }

module _ {W : Type 0} (transacts : W → Ask → List ℕ → Reply → W → Type 0) (p new : WalkPlace) (before after : W) where
  sent_keeps : (b : Bool) (t : Transaction) (h : Held) (read : Reading) → IsRingAligned p.walk → IsCopyAligned h → SentAt transacts b t h read p before new after → Keeps (Start p.registers) new
  sent_keeps true t h read is held sent = goes_to _ new _ sent.place (transacted_keeps t h read.bytes sent.reply p read.memory is held)
  sent_keeps false t h read is held sent = goes_to _ new _ sent.0 (record { walk = record { cursor = is.cursor; held = tt }; begins = refl })

  sends_keep : (t : Transaction) (o : Option Held) → IsRingAligned p.walk → IfSome o IsCopyAligned → Sends transacts t p o before new after → Keeps (Start p.registers) new
  sends_keep t None is held sends = goes_to _ new p sends.0 (record { walk = is; begins = refl })
  sends_keep t (Some h) is held sends = sent_keeps (sending t h.queue_head p.memory).all t h (sending t h.queue_head p.memory) is held sends

  row_keeps : (row : WalkRow) → RowAligned row → IsRingAligned p.walk → Leads transacts row p before new after → Keeps (Start p.registers) new
  row_keeps rows.Fault row is leads = goes_to _ new _ leads.0 (faulted_keeps p is)
  row_keeps rows.HeadEnds row is leads = goes_to _ new _ leads.0 (record { walk = record { cursor = tt; held = is.held }; begins = head_start p.registers })
  row_keeps (rows.Fetch a q) row is leads =
      goes_to _ new (fetched a q p) leads.0
      (record {
        walk = record { cursor = row.0; held = record { at = row.0; queue = reloaded_aligned (mode_after q p.walk.mode) q row.1 } };
        begins = fetched_start q.head p.registers;
      })
  row_keeps rows.Skip row is leads = goes_to _ new (passed p) leads.0 (record { walk = passed_aligned p.walk p.walk.held is is.held; begins = refl })
  row_keeps rows.OutOfTime row is leads = goes_to _ new _ leads.0 (record { walk = record { cursor = is.cursor; held = tt }; begins = refl })
  row_keeps (rows.Advance a t) row is leads = goes_to _ new (took a t p p.walk.held) leads.0 (took_keeps a t p p.walk.held is is.held row)
  row_keeps (rows.Transact t) row is leads = sends_keep t p.walk.held is is.held leads
  row_keeps rows.WriteBack row is leads = goes_to _ new (wrote p p.walk.held) leads.0 (wrote_keeps p p.walk.held is)

-- ---- an event

pub ring_keeps : {W : Type 0} (transacts : W → Ask → List ℕ → Reply → W → Type 0) (p : WalkPlace) (before : W) (new : WalkPlace) (after : W) → Start p.registers % 32 ≡ 0 → IsRingAligned p.walk → Leads transacts (event_row p) (at_event p) before new after
    → Keeps (Start p.registers) new
ring_keeps transacts p before new after start is leads =
    let same = started_start p.walk.first p.registers in
    let begun : IsRingAligned (started p).walk = record { cursor = is.cursor; held = is.held } in
    let aligned : RowAligned (event_row p) = row_aligned (started p) p.walk.held (ap (λ (n : ℕ). n % 32) same ∙ start) is.cursor is.held in
    let keeps : Keeps (Start (started p).registers) new = row_keeps transacts (at_event p) new before after (event_row p) aligned begun leads in
    record { walk = keeps.walk; begins = keeps.begins ∙ same }
