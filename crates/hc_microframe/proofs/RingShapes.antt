-- An event of the ring's walk leaves what a driver alone writes of the registers, and FRINDEX.
--     shape r          the registers r with no bit that an event of a walk changes
--     ring_shape ..    an event of the ring's walk keeps the shape
use Rattle.std.proofs.Common.{◌≡◌, ℕ, Bool, true, false, Option, None, Some, if◌then◌else◌, refl, ap, ◌∙◌}
use Rattle.word_mem.specs.Memory.{Mem}
use Rattle.op_registers.specs.RegisterFile.{RegisterFile}
use Rattle.op_registers.specs.Events.{after_advance, after_reclamation}
use Rattle.qh_qtd.specs.declared.queue_head.Qh.{Qh}
use Rattle.qh_qtd.specs.declared.qtd.Qtd.{Qtd}
use Rattle.toggle_error.specs.declared.host.Outcome.{Outcome}
use Rattle.mem_queues.specs.Structures.{reaches_queue_head}
use Rattle.hc_copy.specs.declared.held.Held.{Held}
use Rattle.hc_copy.specs.declared.held.Transaction.{Transaction}
use Rattle.hc_copy.specs.Buffer.{Reading, Writing, sending}
use Rattle.hc_copy.specs.Overlay.{advanced}
use Rattle.hc_copy.specs.WriteBack.{raised, overlay_after}
use Rattle.async_walk.specs.declared.rows.WalkRow.{WalkRow}
use Rattle.async_walk.specs.declared.rows.WalkRow.TheVariants as rows
use Rattle.async_walk.specs.Walk.{Walk}
use Rattle.async_walk.specs.Rows.{WalkPlace, started_registers, fetched_registers, faulted, took, wrote_place, writing, wrote_settled, wrote, after_walk_row, SentAt, Sends, Leads, at_event, event_row}
use Rattle.hc_microframe.specs.Answers.{Told, Answers}

abbrev pub shape : RegisterFile → RegisterFile
shape r = record r {
  run = false;
  doorbell = false;
  interrupt = false;
  error = false;
  rollover = false;
  host_system_error = false;
  async_advance = false;
  reclamation = false;
}

started : (b : Bool) (r : RegisterFile) → shape (started_registers b r) ≡ shape r
started true r = refl
started false r = refl

answered : (b : Bool) (r : RegisterFile) → shape (if b then after_advance r else r) ≡ shape r
answered true r = refl
answered false r = refl

fetched : (b : Bool) (r : RegisterFile) → shape (fetched_registers b r) ≡ shape r
fetched true r = answered r.doorbell (after_reclamation r false)
fetched false r = refl

took_at : (b : Bool) (p : WalkPlace) (m : Mem) (w : Walk)
    → shape (if b then record p { memory = m; walk = w } else faulted (record p { memory = m })).registers ≡ shape p.registers
took_at true p m w = refl
took_at false p m w = refl

took_shape : (a : ℕ) (t : Qtd) (p : WalkPlace) (held : Option Held) → shape (took a t p held).registers ≡ shape p.registers
took_shape a t p None = refl
took_shape a t p (Some h) =
    let new : Qh = advanced h.queue_head a t in
    took_at (reaches_queue_head p.memory h.at) p (overlay_after p.memory h.at new)
    (record p.walk { held = Some (record h { queue_head = new }) })

wrote_at : (b : Bool) (q : Qh) (outcome : Outcome) (p : WalkPlace) → shape (wrote_place b q outcome p).registers ≡ shape p.registers
unfolding raised
wrote_at true q outcome p = refl
wrote_at false q outcome p = refl

settled_shape : (p : WalkPlace) (h : Held) (settled : Option Outcome) → shape (wrote_settled p h settled).registers ≡ shape p.registers
settled_shape p h None = refl
settled_shape p h (Some outcome) =
    let w : Writing = writing h outcome p.walk.reply p.memory in
    wrote_at w.all h.queue_head outcome (record p { memory = w.memory })

wrote_shape : (p : WalkPlace) (held : Option Held) → shape (wrote p held).registers ≡ shape p.registers
wrote_shape p None = refl
wrote_shape p (Some h) = settled_shape p h h.settled

row_shape : (row : WalkRow) (p : WalkPlace) → shape (after_walk_row row p).registers ≡ shape p.registers
row_shape rows.Fault p = refl
row_shape rows.HeadEnds p = answered p.registers.doorbell p.registers
row_shape (rows.Fetch a q) p = fetched q.head p.registers
row_shape rows.Skip p = refl
row_shape rows.OutOfTime p = refl
row_shape (rows.Advance a t) p = took_shape a t p p.walk.held
row_shape (rows.Transact t) p = refl
row_shape rows.WriteBack p = wrote_shape p p.walk.held

abbrev at : WalkPlace → RegisterFile
at p = shape p.registers

sent_shape : (b : Bool) (t : Transaction) (h : Held) (read : Reading) (p : WalkPlace) (before : Told) (new : WalkPlace) (after : Told)
    → SentAt Answers b t h read p before new after → shape new.registers ≡ shape p.registers
sent_shape true t h read p before new after l = ap at l.place
sent_shape false t h read p before new after l = ap at l.0

sends_shape : (t : Transaction) (p : WalkPlace) (held : Option Held) (before : Told) (new : WalkPlace) (after : Told)
    → Sends Answers t p held before new after → shape new.registers ≡ shape p.registers
sends_shape t p None before new after l = ap at l.0
sends_shape t p (Some h) before new after l =
    let read : Reading = sending t h.queue_head p.memory in
    sent_shape read.all t h read p before new after l

leads_shape : (row : WalkRow) (p : WalkPlace) (before : Told) (new : WalkPlace) (after : Told) → Leads Answers row p before new after
    → shape new.registers ≡ shape p.registers
leads_shape (rows.Transact t) p before new after l = sends_shape t p p.walk.held before new after l
leads_shape rows.Fault p before new after l = ap at l.0 ∙ row_shape rows.Fault p
leads_shape rows.HeadEnds p before new after l = ap at l.0 ∙ row_shape rows.HeadEnds p
leads_shape (rows.Fetch a q) p before new after l = ap at l.0 ∙ row_shape (rows.Fetch a q) p
leads_shape rows.Skip p before new after l = ap at l.0 ∙ row_shape rows.Skip p
leads_shape rows.OutOfTime p before new after l = ap at l.0 ∙ row_shape rows.OutOfTime p
leads_shape (rows.Advance a t) p before new after l = ap at l.0 ∙ row_shape (rows.Advance a t) p
leads_shape rows.WriteBack p before new after l = ap at l.0 ∙ row_shape rows.WriteBack p

pub ring_shape : (p : WalkPlace) (before : Told) (new : WalkPlace) (after : Told)
    → Leads Answers (event_row p) (at_event p) before new after → shape new.registers ≡ shape p.registers
ring_shape p before new after l = leads_shape (event_row p) (at_event p) before new after l ∙ started p.walk.first p.registers
