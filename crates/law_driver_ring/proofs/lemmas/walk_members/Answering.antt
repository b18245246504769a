-- The walk answers the doorbell where it reads the head, and leaves it everywhere else.
use Rattle.std.proofs.Common.{◌≡◌, ℕ, Bool, true, false, cond, List, Option, Some, None, sym, subst, ◌∙◌, refl}
use Rattle.std.proofs.lemmas.Bool.{false≢true}
use Rattle.usb_base.specs.declared.packets.Ask.{Ask}
use Rattle.usb_base.specs.declared.packets.Reply.{Reply}
use Rattle.op_registers.specs.RegisterFile.{RegisterFile}
use Rattle.op_registers.specs.Events.{after_advance, after_reclamation}
use Rattle.qh_qtd.specs.declared.queue_head.Qh.{Qh}
use Rattle.qh_qtd.specs.declared.qtd.Qtd.{Qtd}
use Rattle.toggle_error.specs.declared.host.Outcome.{Outcome}
use Rattle.mem_queues.specs.Structures.{reaches_queue_head}
use Rattle.hc_copy.specs.declared.held.Held.{Held}
use Rattle.hc_copy.specs.declared.held.Transaction.{Transaction}
use Rattle.hc_copy.specs.Buffer.{sending}
use Rattle.hc_copy.specs.WriteBack.{raised}
use Rattle.async_walk.specs.declared.rows.WalkRow.{WalkRow}
use Rattle.async_walk.specs.declared.rows.WalkRow.TheVariants as rows
use Rattle.async_walk.specs.Rows.{WalkPlace, at_event, event_row, fetched_registers, took, wrote, wrote_settled, wrote_place, writing, Sends, SentAt, Leads}
use Rattle.drv_table.specs.DriverContent.{DriverContent}
use Rattle.claims_driver.specs.Walk.{IsBellIn}

kept : (d : DriverContent) (r s : RegisterFile) → s.doorbell ≡ r.doorbell → s.async_advance ≡ r.async_advance → IsBellIn d r → IsBellIn d s
kept d r s bell advance old = record {
  quiet = λ is. let q = old.quiet is in (q.0, advance ∙ q.1, bell ∙ q.2);
  answered = λ on. bell ∙ old.answered (sym advance ∙ on);
  heard = λ is. bell ∙ old.heard is;
}

answered_now : (d : DriverContent) (r : RegisterFile) → r.doorbell ≡ true → IsBellIn d r → IsBellIn d (after_advance r)
answered_now d r on old = record {
  quiet = λ is. absurd (false≢true (sym (old.quiet is).2 ∙ on));
  answered = λ now. refl;
  heard = λ is. refl;
}

read_at : (d : DriverContent) (r : RegisterFile) (b : Bool) → r.doorbell ≡ b → IsBellIn d r → IsBellIn d (cond b (after_advance r) r)
read_at d r true on old = answered_now d r on old
read_at d r false off old = old

fetch_at : (d : DriverContent) (r : RegisterFile) (head : Bool) → IsBellIn d r → IsBellIn d (fetched_registers head r)
fetch_at d r false old = old
fetch_at d r true old = read_at d (after_reclamation r false) r.doorbell refl (kept d r (after_reclamation r false) refl refl old)

raised_bell : (q : Qh) (o : Outcome) (r : RegisterFile) → ((raised q o r).doorbell ≡ r.doorbell) × ((raised q o r).async_advance ≡ r.async_advance)
unfolding raised
raised_bell q o r = (refl, refl)

cond_bell : (d : DriverContent) (b : Bool) (x y : WalkPlace) → IsBellIn d x.registers → IsBellIn d y.registers → IsBellIn d (cond b x y).registers
cond_bell d true x y one two = one
cond_bell d false x y one two = two

took_bell : (d : DriverContent) (p : WalkPlace) (a : ℕ) (t : Qtd) (o : Option Held) → IsBellIn d p.registers → IsBellIn d (took a t p o).registers
took_bell d p a t None old = old
took_bell d p a t (Some h) old = cond_bell d (reaches_queue_head p.memory h.at) _ _ old (kept d p.registers _ refl refl old)

wrote_bell : (d : DriverContent) (p : WalkPlace) (b : Bool) (q : Qh) (o : Outcome) → IsBellIn d p.registers → IsBellIn d (wrote_place b q o p).registers
wrote_bell d p true q o old = let s = raised_bell q o p.registers in kept d p.registers (raised q o p.registers) s.0 s.1 old
wrote_bell d p false q o old = kept d p.registers _ refl refl old

settled_bell : (d : DriverContent) (p : WalkPlace) (h : Held) (s : Option Outcome) → IsBellIn d p.registers → IsBellIn d (wrote_settled p h s).registers
settled_bell d p h None old = old
settled_bell d p h (Some o) old =
    wrote_bell d (record p { memory = (writing h o p.walk.reply p.memory).memory }) (writing h o p.walk.reply p.memory).all h.queue_head o old

written_bell : (d : DriverContent) (p : WalkPlace) (o : Option Held) → IsBellIn d p.registers → IsBellIn d (wrote p o).registers
written_bell d p None old = old
written_bell d p (Some h) old = settled_bell d p h h.settled old

sent_bell : {W : Type 0} (transacts : W → Ask → List ℕ → Reply → W → Type 0) (d : DriverContent) (p : WalkPlace) (t : Transaction) (o : Option Held) (before : W) (new : WalkPlace) (after : W) → IsBellIn d p.registers → Sends transacts t p o before new after → IsBellIn d new.registers
sent_bell transacts d p t None before new after old leads = subst (λ (n : WalkPlace). IsBellIn d n.registers) (sym leads.0) old
sent_bell transacts d p t (Some h) before new after old leads = by (sending t h.queue_head p.memory).all leads
  where
    by : (b : Bool) → SentAt transacts b t h (sending t h.queue_head p.memory) p before new after → IsBellIn d new.registers
    by true made = subst (λ (n : WalkPlace). IsBellIn d n.registers) (sym made.place) (kept d p.registers _ refl refl old)
    by false made = subst (λ (n : WalkPlace). IsBellIn d n.registers) (sym made.0) (kept d p.registers _ refl refl old)

leads_bell : {W : Type 0} (transacts : W → Ask → List ℕ → Reply → W → Type 0) (d : DriverContent) (row : WalkRow) (p : WalkPlace) (before : W) (new : WalkPlace) (after : W) → IsBellIn d p.registers → Leads transacts row p before new after → IsBellIn d new.registers
leads_bell transacts d rows.Fault p before new after old leads = subst (λ (n : WalkPlace). IsBellIn d n.registers) (sym leads.0) (kept d p.registers _ refl refl old)
leads_bell transacts d rows.HeadEnds p before new after old leads = subst (λ (n : WalkPlace). IsBellIn d n.registers) (sym leads.0) (read_at d p.registers p.registers.doorbell refl old)
leads_bell transacts d (rows.Fetch a q) p before new after old leads = subst (λ (n : WalkPlace). IsBellIn d n.registers) (sym leads.0) (fetch_at d p.registers q.head old)
leads_bell transacts d (rows.Advance a t) p before new after old leads = subst (λ (n : WalkPlace). IsBellIn d n.registers) (sym leads.0) (took_bell d p a t p.walk.held old)
leads_bell transacts d (rows.Transact t) p before new after old leads = sent_bell transacts d p t p.walk.held before new after old leads
leads_bell transacts d rows.WriteBack p before new after old leads = subst (λ (n : WalkPlace). IsBellIn d n.registers) (sym leads.0) (written_bell d p p.walk.held old)
leads_bell transacts d _ p before new after old leads = subst (λ (n : WalkPlace). IsBellIn d n.registers) (sym leads.0) old

started_bell : (d : DriverContent) (p : WalkPlace) (b : Bool) → IsBellIn d p.registers → IsBellIn d (cond b (after_reclamation p.registers true) p.registers)
started_bell d p true old = kept d p.registers (after_reclamation p.registers true) refl refl old
started_bell d p false old = old

pub walk_bell : {W : Type 0} (transacts : W → Ask → List ℕ → Reply → W → Type 0) (d : DriverContent) (p : WalkPlace) (before : W) (new : WalkPlace) (after : W) → IsBellIn d p.registers → Leads transacts (event_row p) (at_event p) before new after → IsBellIn d new.registers
walk_bell transacts d p before new after old leads =
    leads_bell transacts d (event_row p) (at_event p) before new after (started_bell d p p.walk.first old) leads
