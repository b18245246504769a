-- No event of the walk sets the doorbell.
use Rattle.std.proofs.Common.{◌≡◌, ℕ, Bool, true, false, cond, List, Option, Some, None, ap, sym, ◌∙◌, refl}
use Rattle.std.proofs.lemmas.Bool.{false≢true}
use Rattle.usb_base.specs.declared.packets.Ask.{Ask}
use Rattle.usb_base.specs.declared.packets.Reply.{Reply}
use Rattle.op_registers.specs.RegisterFile.{RegisterFile}
use Rattle.op_registers.specs.Events.{after_advance, after_reclamation}
use Rattle.qh_qtd.specs.declared.queue_head.Qh.{Qh}
use Rattle.qh_qtd.specs.declared.qtd.Qtd.{Qtd}
use Rattle.toggle_error.specs.declared.host.Outcome.{Outcome}
use Rattle.mem_queues.specs.Structures.{reaches_queue_head}
use Rattle.hc_copy.specs.declared.held.Held.{Held}
use Rattle.hc_copy.specs.declared.held.Transaction.{Transaction}
use Rattle.hc_copy.specs.Buffer.{sending}
use Rattle.hc_copy.specs.WriteBack.{raised}
use Rattle.async_walk.specs.declared.rows.WalkRow.{WalkRow}
use Rattle.async_walk.specs.declared.rows.WalkRow.TheVariants as rows
use Rattle.async_walk.specs.Rows.{WalkPlace, at_event, event_row, fetched_registers, took, wrote, wrote_settled, wrote_place, writing, Sends, SentAt, Leads}

-- where the doorbell is still set, it was
abbrev pub Falls : RegisterFile → RegisterFile → Type 0
Falls r s = s.doorbell ≡ true → r.doorbell ≡ true

read_falls : (r : RegisterFile) (b : Bool) → Falls r (cond b (after_advance r) r)
read_falls r true on = absurd (false≢true on)
read_falls r false on = on

fetch_falls : (r : RegisterFile) (head : Bool) → Falls r (fetched_registers head r)
fetch_falls r false on = on
fetch_falls r true on = read_falls (after_reclamation r false) r.doorbell on

raised_bell : (q : Qh) (o : Outcome) (r : RegisterFile) → (raised q o r).doorbell ≡ r.doorbell
unfolding raised
raised_bell q o r = refl

either_falls : (r : RegisterFile) (b : Bool) (x y : WalkPlace) → Falls r x.registers → Falls r y.registers → Falls r (cond b x y).registers
either_falls r true x y one two = one
either_falls r false x y one two = two

took_falls : (p : WalkPlace) (a : ℕ) (t : Qtd) (o : Option Held) → Falls p.registers (took a t p o).registers
took_falls p a t None on = on
took_falls p a t (Some h) on = either_falls p.registers (reaches_queue_head p.memory h.at) _ _ (λ same. same) (λ same. same) on

wrote_falls : (p : WalkPlace) (b : Bool) (q : Qh) (o : Outcome) → Falls p.registers (wrote_place b q o p).registers
wrote_falls p true q o on = sym (raised_bell q o p.registers) ∙ on
wrote_falls p false q o on = on

settled_falls : (p : WalkPlace) (h : Held) (s : Option Outcome) → Falls p.registers (wrote_settled p h s).registers
settled_falls p h None on = on
settled_falls p h (Some o) on = wrote_falls (record p { memory = (writing h o p.walk.reply p.memory).memory }) (writing h o p.walk.reply p.memory).all h.queue_head o on

written_falls : (p : WalkPlace) (o : Option Held) → Falls p.registers (wrote p o).registers
written_falls p None on = on
written_falls p (Some h) on = settled_falls p h h.settled on

-- what leads to a place in which it is so
goes_to : (r : RegisterFile) (new expected : WalkPlace) → new ≡ expected → Falls r expected.registers → Falls r new.registers
goes_to r new expected is falls on = falls (ap (λ (n : WalkPlace). n.registers.doorbell) (sym is) ∙ on)

sent_falls : {W : Type 0} (transacts : W → Ask → List ℕ → Reply → W → Type 0) (p : WalkPlace) (t : Transaction) (o : Option Held) (before : W) (new : WalkPlace) (after : W) → Sends transacts t p o before new after → Falls p.registers new.registers
sent_falls transacts p t None before new after leads = goes_to p.registers new _ leads.0 (λ on. on)
sent_falls transacts p t (Some h) before new after leads = by (sending t h.queue_head p.memory).all leads
  where
    by : (b : Bool) → SentAt transacts b t h (sending t h.queue_head p.memory) p before new after → Falls p.registers new.registers
    by true made = goes_to p.registers new _ made.place (λ on. on)
    by false made = goes_to p.registers new _ made.0 (λ on. on)

leads_falls : {W : Type 0} (transacts : W → Ask → List ℕ → Reply → W → Type 0) (row : WalkRow) (p : WalkPlace) (before : W) (new : WalkPlace) (after : W) → Leads transacts row p before new after → Falls p.registers new.registers
leads_falls transacts rows.HeadEnds p before new after leads = goes_to p.registers new _ leads.0 (read_falls p.registers p.registers.doorbell)
leads_falls transacts (rows.Fetch a q) p before new after leads = goes_to p.registers new _ leads.0 (fetch_falls p.registers q.head)
leads_falls transacts (rows.Advance a t) p before new after leads = goes_to p.registers new _ leads.0 (took_falls p a t p.walk.held)
leads_falls transacts (rows.Transact t) p before new after leads = sent_falls transacts p t p.walk.held before new after leads
leads_falls transacts rows.WriteBack p before new after leads = goes_to p.registers new _ leads.0 (written_falls p p.walk.held)
leads_falls transacts _ p before new after leads = goes_to p.registers new _ leads.0 (λ on. on)

started_falls : (r : RegisterFile) (b : Bool) → Falls r (cond b (after_reclamation r true) r)
started_falls r true on = on
started_falls r false on = on

pub event_falls : {W : Type 0} (transacts : W → Ask → List ℕ → Reply → W → Type 0) (p : WalkPlace) (before : W) (new : WalkPlace) (after : W) → Leads transacts (event_row p) (at_event p) before new after → Falls p.registers new.registers
event_falls transacts p before new after leads on = started_falls p.registers p.walk.first (leads_falls transacts (event_row p) (at_event p) before new after leads on)
