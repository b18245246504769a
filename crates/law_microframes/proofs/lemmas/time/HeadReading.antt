-- Each event of the walk of the ring reads the head of the reclamation list as EHCI 1.0, 4.8.3 has it, and no event of the driver and no command writes Reclamation.
use Rattle.std.proofs.Common.{◌≡◌, ℕ, Bool, true, false, not, ◌&&◌, if◌then◌else◌, List, Option, Some, None, Result, Ok, Err, ap, sym, subst, ◌∙◌, refl}
use Rattle.std.specs.List.{slice_get}
use Rattle.std.proofs.lemmas.Bool.{true≢false, false≢true}
use Rattle.usb_base.specs.declared.endpoints.EpName.{EpName}
use Rattle.usb_base.specs.declared.reports.OfferError.{OfferError}
use Rattle.word_mem.specs.Memory.{Mem}
use Rattle.link_words.specs.declared.kinds.Link.{Link}
use Rattle.link_words.specs.declared.kinds.Link.TheVariants as links
use Rattle.link_words.specs.declared.kinds.QtdLink.{QtdLink}
use Rattle.link_words.specs.declared.kinds.QtdLink.TheVariants as qtd_links
use Rattle.op_registers.specs.RegisterFile.{RegisterFile}
use Rattle.op_registers.specs.Events.{after_advance, after_reclamation}
use Rattle.qh_qtd.specs.declared.qtd.Qtd.{Qtd}
use Rattle.qh_qtd.specs.declared.queue_head.Qh.{Qh}
use Rattle.toggle_error.specs.declared.host.Outcome.{Outcome}
use Rattle.mem_runs.specs.Book.{holding}
use Rattle.mem_queues.specs.Structures.{queue_head_at_address, qtd_at_address, reaches_queue_head}
use Rattle.hc_copy.specs.declared.held.Held.{Held}
use Rattle.hc_copy.specs.declared.held.Transaction.{Transaction}
use Rattle.hc_copy.specs.declared.held.Visit.{Visit}
use Rattle.hc_copy.specs.declared.held.Visit.TheVariants as visits
use Rattle.hc_copy.specs.Visits.{visit_of}
use Rattle.hc_copy.specs.Buffer.{sending}
use Rattle.hc_copy.specs.WriteBack.{raised}
use Rattle.async_walk.specs.declared.rows.WalkRow.{WalkRow}
use Rattle.async_walk.specs.declared.rows.WalkRow.TheVariants as walks
use Rattle.async_walk.specs.Naks.{may_work, planned}
use Rattle.async_walk.specs.Walk.{Walk}
use Rattle.async_walk.specs.Rows.{WalkPlace, started, cursor_link, fetch_row, ring_row, work_row, taken_row, take_row, visit_row, held_row, row_at, head_read, fetched_registers, passed_walk, took, writing, wrote_place, wrote_settled, wrote, at_event, event_row, step_of}
use Rattle.hc_core.specs.declared.controller.MicroframePart.TheVariants.{Asynchronous}
use Rattle.hc_core.specs.Controller.{part_after}
use Rattle.drv_table.specs.declared.content.Endpoint.{Endpoint}
use Rattle.drv_table.specs.declared.content.Transfer.{Transfer}
use Rattle.drv_table.specs.declared.rows.DriverRow.{DriverRow}
use Rattle.drv_table.specs.declared.rows.DriverRow.TheVariants as rows_of_driver
use Rattle.drv_periodic_table.specs.declared.content.Removed.{Removed}
use Rattle.drv_periodic_table.specs.declared.content.Removed.TheVariants as removed
use Rattle.drv_table.specs.Accepting.{Offered}
use Rattle.drv_table.specs.Offers.{offered}
use Rattle.drv_table.specs.Parts.{Parts}
use Rattle.drv_table.specs.Rows.{driver_row, after_driver_row}
use Rattle.drv_table.specs.Releases.{after_transfer, freed_by, after_endpoint}
use Rattle.drv_table.specs.Removals.{after_removed, after_descriptor, after_placed, after_unlink}
use Rattle.bus_wire.specs.Bus.{Bus, Fixed}
use Rattle.bus_world.specs.World.{World, driver_parts, sent_by, sends_by, walk_by, name_in, commanded_by}
use Rattle.law_microframes.specs.time.HeadReads.{reads_head, reclamation_at, EventsReadTheHead, WorldsLeaveReclamation}

-- ---- what a row tells of Reclamation

abbrev pub Tells : WalkRow → Bool → Type 0
Tells walks.Fault r = Unit {0}
Tells walks.HeadEnds r = r ≡ false
Tells (walks.Fetch a q) r = q.head ≡ true → r ≡ true
Tells walks.Skip r = Unit {0}
Tells walks.OutOfTime r = Unit {0}
Tells (walks.Advance a t) r = Unit {0}
Tells (walks.Transact t) r = Unit {0}
Tells walks.WriteBack r = Unit {0}

quiet_tells : (a : ℕ) (q : Qh) (head r : Bool) → q.head ≡ head → Tells (if head && not r then walks.HeadEnds else walks.Fetch a q) r
quiet_tells a q true true is = λ head. refl
quiet_tells a q true false is = refl
quiet_tells a q false r is = λ head. absurd (false≢true (sym is ∙ head))

fetch_tells : (r : Bool) (a : ℕ) (o : Option Qh) → Tells (fetch_row r a o) r
fetch_tells r a None = tt
fetch_tells r a (Some q) = quiet_tells a q q.head r refl

ring_tells : (m : Mem) (r : Bool) (link : Link) → Tells (ring_row m r link) r
ring_tells m r (links.Qh a) = fetch_tells r a (queue_head_at_address m a)
ring_tells m r _ = tt

work_tells : (late : Bool) (t : Transaction) (r : Bool) → Tells (work_row late t) r
work_tells true t r = tt
work_tells false t r = tt

active_tells : (active : Bool) (a : ℕ) (t : Qtd) (r : Bool) → Tells (if active then walks.Advance a t else walks.Skip) r
active_tells true a t r = tt
active_tells false a t r = tt

taken_tells : (a : ℕ) (o : Option Qtd) (r : Bool) → Tells (taken_row a o) r
taken_tells a None r = tt
taken_tells a (Some t) r = active_tells t.token.active a t r

take_tells : (m : Mem) (link : QtdLink) (r : Bool) → Tells (take_row m link) r
take_tells m qtd_links.End r = tt
take_tells m (qtd_links.To a) r = taken_tells a (qtd_at_address m a) r

visit_tells : (m : Mem) (left : ℕ) (q : Qh) (v : Visit) (r : Bool) → Tells (visit_row m left q v) r
visit_tells m left q visits.Rest r = tt
visit_tells m left q visits.Work r = work_tells _ (planned q) r
visit_tells m left q (visits.Take link) r = take_tells m link r

held_tells : (m : Mem) (left : ℕ) (q : Qh) (o : Option Outcome) (r : Bool) → Tells (held_row m left q o) r
held_tells m left q None r = visit_tells m left q (visit_of (may_work q) q) r
held_tells m left q (Some s) r = tt

at_tells : (p : WalkPlace) (o : Option Held) → Tells (row_at p o) p.registers.reclamation
at_tells p None = ring_tells p.memory p.registers.reclamation (cursor_link p.registers p.walk.cursor)
at_tells p (Some h) = held_tells p.memory p.walk.left h.queue_head h.settled p.registers.reclamation

pub row_tells : (p : WalkPlace) → Tells (event_row p) (reclamation_at p)
row_tells p = at_tells (started p) (started p).walk.held

-- ---- what a row leaves of Reclamation, and that the part has begun

pub record Leaves (p new : WalkPlace) : Type 0 where
  pub first : new.walk.first ≡ p.walk.first
  pub reclamation : new.registers.reclamation ≡ p.registers.reclamation

itself : (p : WalkPlace) → Leaves p p
itself p = record { first = refl; reclamation = refl }

passed_first : (w : Walk) (o : Option Held) → (passed_walk w o).first ≡ w.first
passed_first w None = refl
passed_first w (Some h) = refl

either_leaves : (b : Bool) (p x y : WalkPlace) → Leaves p x → Leaves p y → Leaves p (if b then x else y)
either_leaves true p x y one other = one
either_leaves false p x y one other = other

pub took_leaves : (a : ℕ) (t : Qtd) (p : WalkPlace) (o : Option Held) → Leaves p (took a t p o)
took_leaves a t p None = itself p
took_leaves a t p (Some h) = either_leaves (reaches_queue_head p.memory h.at) p _ _ (record { first = refl; reclamation = refl }) (record { first = refl; reclamation = refl })

raised_reclamation : (q : Qh) (o : Outcome) (r : RegisterFile) → (raised q o r).reclamation ≡ r.reclamation
unfolding raised
raised_reclamation q o r = refl

wrote_place_leaves : (b : Bool) (q : Qh) (o : Outcome) (p : WalkPlace) → Leaves p (wrote_place b q o p)
wrote_place_leaves true q o p = record { first = passed_first p.walk p.walk.held; reclamation = raised_reclamation q o p.registers }
wrote_place_leaves false q o p = record { first = refl; reclamation = refl }

wrote_settled_leaves : (p : WalkPlace) (h : Held) (o : Option Outcome) → Leaves p (wrote_settled p h o)
wrote_settled_leaves p h None = itself p
wrote_settled_leaves p h (Some o) =
    let w : WalkPlace = record p { memory = (writing h o p.walk.reply p.memory).memory } in
    let l : Leaves w (wrote_place (writing h o p.walk.reply p.memory).all h.queue_head o w) = wrote_place_leaves (writing h o p.walk.reply p.memory).all h.queue_head o w in
    record { first = l.first; reclamation = l.reclamation }

pub wrote_leaves : (p : WalkPlace) (o : Option Held) → Leaves p (wrote p o)
wrote_leaves p None = itself p
wrote_leaves p (Some h) = wrote_settled_leaves p h h.settled

sent_first : (fixed : Fixed) (all : Bool) (t : Transaction) (h : Held) (bytes : List ℕ) (p : WalkPlace) (b : Bus) → (sent_by fixed all t h bytes p b).place.walk.first ≡ p.walk.first
sent_first fixed true t h bytes p b = refl
sent_first fixed false t h bytes p b = refl

pub sends_first : (fixed : Fixed) (t : Transaction) (p : WalkPlace) (o : Option Held) (b : Bus) → (sends_by fixed t p o b).place.walk.first ≡ p.walk.first
sends_first fixed t p None b = refl
sends_first fixed t p (Some h) b =
    sent_first fixed (sending t h.queue_head p.memory).all t h (sending t h.queue_head p.memory).bytes (record p { memory = (sending t h.queue_head p.memory).memory }) b

pub skip_leaves : (p : WalkPlace) → Leaves p (record p { walk = passed_walk p.walk p.walk.held })
skip_leaves p = record { first = passed_first p.walk p.walk.held; reclamation = refl }

answered : (b : Bool) (r : RegisterFile) → (if b then after_advance r else r).reclamation ≡ r.reclamation
answered true r = refl
answered false r = refl

pub head_reclamation : (r : RegisterFile) → (head_read r).reclamation ≡ r.reclamation
head_reclamation r = answered r.doorbell r

pub fetched_reclamation : (r : RegisterFile) → (fetched_registers true r).reclamation ≡ false
fetched_reclamation r = head_reclamation (after_reclamation r false)

-- ---- each event of the walk

read_by : (fixed : Fixed) (row : WalkRow) (p : WalkPlace) (b : Bus) → Tells row p.registers.reclamation → reads_head row ≡ true → (walk_by fixed row p b).place.registers.reclamation ≡ false
read_by fixed walks.HeadEnds p b tells reads = head_reclamation p.registers ∙ tells
read_by fixed (walks.Fetch a q) p b tells reads = ap (λ (h : Bool). (fetched_registers h p.registers).reclamation) reads ∙ fetched_reclamation p.registers
read_by fixed _ p b tells reads = absurd (false≢true reads)

left_by : (fixed : Fixed) (row : WalkRow) (p : WalkPlace) (b : Bus) → ((t : Transaction) → row ≡ walks.Transact t → ⊥) → reads_head row ≡ false
    → (walk_by fixed row p b).place.registers.reclamation ≡ p.registers.reclamation
left_by fixed walks.HeadEnds p b other reads = absurd (true≢false reads)
left_by fixed (walks.Fetch a q) p b other reads = ap (λ (h : Bool). (fetched_registers h p.registers).reclamation) reads
left_by fixed (walks.Advance a t) p b other reads = (took_leaves a t p p.walk.held).reclamation
left_by fixed (walks.Transact t) p b other reads = absurd (other t refl)
left_by fixed walks.WriteBack p b other reads = (wrote_leaves p p.walk.held).reclamation
left_by fixed _ p b other reads = refl

pub quiet_by : (row : WalkRow) (r : Bool) → Tells row r → r ≡ false → reads_head row ≡ true → row ≡ walks.HeadEnds
quiet_by walks.HeadEnds r tells quiet reads = refl
quiet_by (walks.Fetch a q) r tells quiet reads = absurd (true≢false (sym (tells reads) ∙ quiet))
quiet_by _ r tells quiet reads = absurd (false≢true reads)

begins_with : (first : Bool) (r : RegisterFile) → first ≡ true → (if first then after_reclamation r true else r).reclamation ≡ true
begins_with true r is = refl
begins_with false r is = absurd (false≢true is)

pub goes_with : (first : Bool) (r : RegisterFile) → first ≡ false → (if first then after_reclamation r true else r).reclamation ≡ r.reclamation
goes_with true r is = absurd (true≢false is)
goes_with false r is = refl

pub events_read_the_head : EventsReadTheHead
events_read_the_head fixed p b = record {
  begins = begins_with p.walk.first p.registers;
  goes_on = goes_with p.walk.first p.registers;
  read = read_by fixed (event_row p) (at_event p) b (row_tells p);
  other = left_by fixed (event_row p) (at_event p) b;
  quiet = quiet_by (event_row p) (reclamation_at p) (row_tells p);
  ends = λ is. ap (λ (row : WalkRow). part_after Asynchronous (step_of row (at_event p))) is;
  never = λ on is. true≢false (sym on ∙ subst (λ (row : WalkRow). Tells row (reclamation_at p)) is (row_tells p));
}

-- ---- the driver and the commands

abbrev Keeps : Parts → Parts → Type 0
Keeps p new = new.registers.reclamation ≡ p.registers.reclamation

transfer_keeps : (p : Parts) (t : ℕ) (o : Option Transfer) → Keeps p (after_transfer p t o (freed_by p.driver (holding p.driver.book p.memory) o))
transfer_keeps p t None = refl
transfer_keeps p t (Some x) = refl

endpoint_keeps : (p : Parts) (e : ℕ) (o : Option Endpoint) → Keeps p (after_endpoint p e o)
endpoint_keeps p e None = refl
endpoint_keeps p e (Some x) = refl

descriptor_keeps : (p : Parts) (t : ℕ) (o : Option Transfer) → Keeps p (after_descriptor p t o)
descriptor_keeps p t None = refl
descriptor_keeps p t (Some x) = refl

placed_keeps : (p : Parts) (e : ℕ) (o : Option Endpoint) → Keeps p (after_placed p e o)
placed_keeps p e None = refl
placed_keeps p e (Some x) = refl

removed_keeps : (p : Parts) (what : Removed) → Keeps p (after_removed p what)
removed_keeps p (removed.Descriptor t) = descriptor_keeps p t (slice_get p.driver.transfers t)
removed_keeps p (removed.Endpoint e) = placed_keeps p e (slice_get p.driver.endpoints e)

unlinked_keeps : (p : Parts) (t : ℕ) (o : Option Transfer) → Keeps p (after_unlink p t o)
unlinked_keeps p t None = refl
unlinked_keeps p t (Some x) = refl

row_keeps : (row : DriverRow) (p : Parts) → Keeps p (after_driver_row row p)
row_keeps (rows_of_driver.Unlink t) p = unlinked_keeps p t (slice_get p.driver.transfers t)
row_keeps (rows_of_driver.ReleaseRemoved what) p = removed_keeps p what
row_keeps (rows_of_driver.ReleaseTransfer t) p = transfer_keeps p t (slice_get p.driver.transfers t)
row_keeps (rows_of_driver.ReleaseEndpoint e) p = endpoint_keeps p e (slice_get p.driver.endpoints e)
row_keeps _ p = refl

answered_registers : (w : World) (n : ℕ) (name : EpName) (r : Result Offered OfferError) → (commanded_by w n name r).registers.reclamation ≡ w.registers.reclamation
answered_registers w n name (Ok o) = refl
answered_registers w n name (Err why) = refl

pub worlds_leave_reclamation : WorldsLeaveReclamation
worlds_leave_reclamation w = record {
  driver = row_keeps (driver_row (driver_parts w)) (driver_parts w);
  command = λ n cmd. answered_registers w n (name_in cmd) (offered w.driver w.memory cmd);
}
