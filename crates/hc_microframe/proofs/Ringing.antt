-- Each event of the ring's walk leaves the cursor at the queue head in hand, and where it ends the part it tells where the walk goes on.
use Rattle.std.proofs.Common.{◌≡◌, ℕ, Bool, true, false, List, Option, None, Some, ap, refl, sym, subst, ◌∙◌, if◌then◌else◌}
use Rattle.std.specs.Prelude.{IfSome, is_some, not, ◌&&◌, nat_lt, unwrap_or}
use Rattle.usb_base.specs.declared.packets.Ask.{Ask}
use Rattle.usb_base.specs.declared.packets.Reply.{Reply}
use Rattle.word_mem.specs.Memory.{Mem}
use Rattle.link_words.specs.declared.kinds.Link.{Link}
use Rattle.link_words.specs.declared.kinds.Link.TheVariants as links
use Rattle.link_words.specs.declared.kinds.QtdLink.{QtdLink}
use Rattle.link_words.specs.declared.kinds.QtdLink.TheVariants as qtd_links
use Rattle.link_words.specs.Links.{qtd_link_of}
use Rattle.qh_qtd.specs.declared.qtd.Qtd.{Qtd}
use Rattle.qh_qtd.specs.declared.queue_head.Qh.{Qh}
use Rattle.op_registers.specs.RegisterFile.{RegisterFile}
use Rattle.op_registers.specs.Events.{after_advance, after_reclamation}
use Rattle.toggle_error.specs.declared.host.Outcome.{Outcome}
use Rattle.mem_queues.specs.Structures.{qtd_at_address, queue_head_at_address, reaches_queue_head}
use Rattle.hc_copy.specs.declared.held.Held.{Held}
use Rattle.hc_copy.specs.declared.held.Transaction.{Transaction}
use Rattle.hc_copy.specs.Visits.{next_pointer, visit_at}
use Rattle.hc_copy.specs.Buffer.{Reading, Writing, sending}
use Rattle.hc_copy.specs.WriteBack.{raised}
use Rattle.async_walk.specs.declared.rows.WalkRow.{WalkRow}
use Rattle.async_walk.specs.declared.rows.WalkRow.TheVariants as rows
use Rattle.async_walk.specs.declared.state.Cursor.{Cursor}
use Rattle.async_walk.specs.declared.state.Cursor.TheVariants as cursors
use Rattle.async_walk.specs.declared.state.WalkStep.{WalkStep}
use Rattle.async_walk.specs.declared.state.WalkStep.TheVariants as steps
use Rattle.async_walk.specs.Walk.{Walk, cursor_address, held_address}
use Rattle.async_walk.specs.Naks.{may_work, planned}
use Rattle.async_walk.specs.Rows.{WalkPlace, cursor_link, started, started_registers, fetch_row, ring_row, work_row, taken_row, take_row, visit_row, held_row, row_at, faulted, head_read, fetched_registers, fetched, passed, passed_walk, took, took_step, wrote, wrote_place, wrote_settled, wrote_step, wrote_step_settled, writing, sent_step, SentAt, Sends, Leads, step_of, at_event, event_row}
use Rattle.hc_microframe.specs.Places.{RingStands}

pub either : {A : Type 0} (P : A → Type 0) (b : Bool) (x y : A) → P x → P y → P (if b then x else y)
either P true x y one other = one
either P false x y one other = other

-- ---- the row fits what is in hand

abbrev RowFits : WalkRow → Option Held → Type 0
RowFits rows.HeadEnds o = o ≡ None
RowFits rows.OutOfTime o = is_some o ≡ true
RowFits rows.Fault o = Unit {0}
RowFits (rows.Fetch a q) o = Unit {0}
RowFits rows.Skip o = Unit {0}
RowFits (rows.Advance a t) o = Unit {0}
RowFits (rows.Transact t) o = Unit {0}
RowFits rows.WriteBack o = Unit {0}

fetch_fits : (reclamation : Bool) (a : ℕ) (o : Option Qh) → RowFits (fetch_row reclamation a o) None
fetch_fits reclamation a None = tt
fetch_fits reclamation a (Some q) =
    either (λ (row : WalkRow). RowFits row None) (q.head && not reclamation) rows.HeadEnds (rows.Fetch a q) refl tt

ring_fits : (m : Mem) (reclamation : Bool) (l : Link) → RowFits (ring_row m reclamation l) None
ring_fits m reclamation (links.Qh a) = fetch_fits reclamation a (queue_head_at_address m a)
ring_fits m reclamation _ = tt

taken_fits : (h : Held) (a : ℕ) (o : Option Qtd) → RowFits (taken_row a o) (Some h)
taken_fits h a None = tt
taken_fits h a (Some t) = either (λ (row : WalkRow). RowFits row (Some h)) t.token.active (rows.Advance a t) rows.Skip tt tt

take_fits : (h : Held) (m : Mem) (l : QtdLink) → RowFits (take_row m l) (Some h)
take_fits h m qtd_links.End = tt
take_fits h m (qtd_links.To a) = taken_fits h a (qtd_at_address m a)

work_fits : (h : Held) (late : Bool) (t : Transaction) → RowFits (work_row late t) (Some h)
work_fits h true t = refl
work_fits h false t = tt

visit_fits : (h : Held) (m : Mem) (left : ℕ) (q : Qh) (may halted active : Bool) (l : QtdLink)
    → RowFits (visit_row m left q (visit_at may halted active l)) (Some h)
visit_fits h m left q false halted active l = tt
visit_fits h m left q true true active l = tt
visit_fits h m left q true false true l = work_fits h (nat_lt left (planned q).price.0) (planned q)
visit_fits h m left q true false false l = take_fits h m l

held_fits : (h : Held) (m : Mem) (left : ℕ) (q : Qh) (o : Option Outcome) → RowFits (held_row m left q o) (Some h)
held_fits h m left q None = visit_fits h m left q (may_work q) q.token.halted q.token.active (qtd_link_of (next_pointer q))
held_fits h m left q (Some s) = tt

row_fits : (p : WalkPlace) (o : Option Held) → RowFits (row_at p o) o
row_fits p None = ring_fits p.memory p.registers.reclamation (cursor_link p.registers p.walk.cursor)
row_fits p (Some h) = held_fits h p.memory p.walk.left h.queue_head h.settled

-- ---- what stands after a row

-- what an event of this kind tells, where `held` was in hand before it
abbrev pub Tells : WalkStep → Option Held → WalkPlace → Type 0
Tells steps.Ended held new = cursor_address new.walk.cursor ≡ unwrap_or (held_address held) 0
Tells steps.Fault held new = new.registers.run ≡ false
Tells steps.Fetch held new = Unit {0}
Tells steps.Advance held new = Unit {0}
Tells steps.Transact held new = Unit {0}
Tells steps.WriteBack held new = Unit {0}
Tells steps.Skip held new = Unit {0}

pub record Leaves (enabled : Bool) (held : Option Held) (step : WalkStep) (new : WalkPlace) : Type 0 where
  pub stands : RingStands new.walk
  pub tells : Tells step held new
  pub async : new.registers.async_enable ≡ enabled

goes_to : (enabled : Bool) (held : Option Held) (step : WalkStep) (new expected : WalkPlace) → new ≡ expected
    → Leaves enabled held step expected → Leaves enabled held step new
goes_to enabled held step new expected is leaves = subst (Leaves enabled held step) (sym is) leaves

faulted_leaves : (p : WalkPlace) (held : Option Held) → Leaves p.registers.async_enable held steps.Fault (faulted p)
faulted_leaves p held = record { stands = tt; tells = refl; async = refl }

head_async : (r : RegisterFile) → (head_read r).async_enable ≡ r.async_enable
head_async r = either (λ (x : RegisterFile). x.async_enable ≡ r.async_enable) r.doorbell (after_advance r) r refl refl

fetched_async : (b : Bool) (r : RegisterFile) → (fetched_registers b r).async_enable ≡ r.async_enable
fetched_async true r = head_async (after_reclamation r false)
fetched_async false r = refl

started_async : (b : Bool) (r : RegisterFile) → (started_registers b r).async_enable ≡ r.async_enable
started_async true r = refl
started_async false r = refl

raised_async : (q : Qh) (outcome : Outcome) (r : RegisterFile) → (raised q outcome r).async_enable ≡ r.async_enable
unfolding raised
raised_async q outcome r = refl

-- nothing is in hand at a cursor that stands anywhere
nothing_stands : (o : Option Held) (c : Cursor) → o ≡ None → IfSome o (λ h. c ≡ cursors.At (links.Qh h.at))
nothing_stands None c is = tt
nothing_stands (Some h) c is = absurd cc

nothing_told : (o : Option Held) → o ≡ None → 0 ≡ unwrap_or (held_address o) 0
nothing_told None is = refl
nothing_told (Some h) is = absurd cc

late_told : (o : Option Held) (c : Cursor) → is_some o ≡ true → IfSome o (λ h. c ≡ cursors.At (links.Qh h.at))
    → cursor_address c ≡ unwrap_or (held_address o) 0
late_told None c some is = absurd cc
late_told (Some h) c some is = ap cursor_address is

passed_stands : (w : Walk) (o : Option Held) → RingStands w → RingStands (passed_walk w o)
passed_stands w None is = is
passed_stands w (Some h) is = tt

both : (P : WalkStep → WalkPlace → Type 0) (b : Bool) (one other : WalkStep) (x y : WalkPlace) → P one x → P other y
    → P (if b then one else other) (if b then x else y)
both P true one other x y first second = first
both P false one other x y first second = second

took_leaves : (a : ℕ) (t : Qtd) (p : WalkPlace) (held o : Option Held) → RingStands p.walk
    → IfSome o (λ h. p.walk.cursor ≡ cursors.At (links.Qh h.at))
    → Leaves p.registers.async_enable held (took_step p.memory o) (took a t p o)
took_leaves a t p held None is here = record { stands = is; tells = tt; async = refl }
took_leaves a t p held (Some h) is here =
    both (Leaves p.registers.async_enable held) (reaches_queue_head p.memory h.at) steps.Advance steps.Fault _ _
    (record { stands = here; tells = tt; async = refl }) (record { stands = tt; tells = refl; async = refl })

wrote_by : (p : WalkPlace) (held : Option Held) (b : Bool) (q : Qh) (outcome : Outcome) (m : Mem) → RingStands p.walk
    → Leaves p.registers.async_enable held (if b then steps.WriteBack else steps.Fault) (wrote_place b q outcome (record p { memory = m }))
wrote_by p held true q outcome m is =
    record { stands = passed_stands p.walk p.walk.held is; tells = tt; async = raised_async q outcome p.registers }
wrote_by p held false q outcome m is = record { stands = tt; tells = refl; async = refl }

wrote_settled_leaves : (p : WalkPlace) (held : Option Held) (h : Held) (o : Option Outcome) → RingStands p.walk
    → Leaves p.registers.async_enable held (wrote_step_settled p h o) (wrote_settled p h o)
wrote_settled_leaves p held h None is = record { stands = is; tells = tt; async = refl }
wrote_settled_leaves p held h (Some outcome) is =
    let w : Writing = writing h outcome p.walk.reply p.memory in
    wrote_by p held w.all h.queue_head outcome w.memory is

wrote_leaves : (p : WalkPlace) (held o : Option Held) → RingStands p.walk
    → Leaves p.registers.async_enable held (wrote_step p o) (wrote p o)
wrote_leaves p held None is = record { stands = is; tells = tt; async = refl }
wrote_leaves p held (Some h) is = wrote_settled_leaves p held h h.settled is

module _ {W : Type 0} (transacts : W → Ask → List ℕ → Reply → W → Type 0) (p new : WalkPlace) (before after : W) where
  sent_leaves : (b : Bool) (t : Transaction) (h : Held) (read : Reading) → p.walk.cursor ≡ cursors.At (links.Qh h.at)
      → SentAt transacts b t h read p before new after
      → Leaves p.registers.async_enable p.walk.held (if b then steps.Transact else steps.Fault) new
  sent_leaves true t h read here sent = goes_to _ _ _ new _ sent.place (record { stands = here; tells = tt; async = refl })
  sent_leaves false t h read here sent = goes_to _ _ _ new _ sent.0 (record { stands = tt; tells = refl; async = refl })

  sends_leave : (t : Transaction) (o : Option Held) → RingStands p.walk → IfSome o (λ h. p.walk.cursor ≡ cursors.At (links.Qh h.at))
      → Sends transacts t p o before new after → Leaves p.registers.async_enable p.walk.held (sent_step t p.memory o) new
  sends_leave t None is here sends = goes_to _ _ _ new p sends.0 (record { stands = is; tells = tt; async = refl })
  sends_leave t (Some h) is here sends =
      sent_leaves (sending t h.queue_head p.memory).all t h (sending t h.queue_head p.memory) here sends

  row_leaves : (row : WalkRow) → RowFits row p.walk.held → RingStands p.walk → Leads transacts row p before new after
      → Leaves p.registers.async_enable p.walk.held (step_of row p) new
  row_leaves rows.Fault fits is leads = goes_to _ _ _ new (faulted p) leads.0 (faulted_leaves p p.walk.held)
  row_leaves rows.HeadEnds fits is leads =
      goes_to _ _ _ new _ leads.0
      (record {
        stands = nothing_stands p.walk.held cursors.Start fits;
        tells = nothing_told p.walk.held fits;
        async = head_async p.registers;
      })
  row_leaves (rows.Fetch a q) fits is leads =
      goes_to _ _ _ new (fetched a q p) leads.0 (record { stands = refl; tells = tt; async = fetched_async q.head p.registers })
  row_leaves rows.Skip fits is leads =
      goes_to _ _ _ new (passed p) leads.0 (record { stands = passed_stands p.walk p.walk.held is; tells = tt; async = refl })
  row_leaves rows.OutOfTime fits is leads =
      goes_to _ _ _ new _ leads.0 (record { stands = tt; tells = late_told p.walk.held p.walk.cursor fits is; async = refl })
  row_leaves (rows.Advance a t) fits is leads =
      goes_to _ _ _ new (took a t p p.walk.held) leads.0 (took_leaves a t p p.walk.held p.walk.held is is)
  row_leaves (rows.Transact t) fits is leads = sends_leave t p.walk.held is is leads
  row_leaves rows.WriteBack fits is leads =
      goes_to _ _ _ new (wrote p p.walk.held) leads.0 (wrote_leaves p p.walk.held p.walk.held is)

-- ---- an event

pub ring_leaves : {W : Type 0} (transacts : W → Ask → List ℕ → Reply → W → Type 0) (p : WalkPlace) (before : W)
    (new : WalkPlace) (after : W) → RingStands p.walk → Leads transacts (event_row p) (at_event p) before new after
    → Leaves p.registers.async_enable p.walk.held (step_of (event_row p) (at_event p)) new
ring_leaves transacts p before new after is leads =
    let fits : RowFits (event_row p) p.walk.held = row_fits (started p) p.walk.held in
    let leaves : Leaves (started p).registers.async_enable p.walk.held (step_of (event_row p) (at_event p)) new =
    row_leaves transacts (at_event p) new before after (event_row p) fits is leads
    in
    record { stands = leaves.stands; tells = leaves.tells; async = leaves.async ∙ started_async p.walk.first p.registers }
