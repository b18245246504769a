-- One event of the asynchronous part of a microframe (EHCI 1.0, 4.8 to 4.10). Each event is one row; which one, `walk_row` tells, and what
-- stands after it, `after_walk_row`. A transaction is the row that asks the wire, and what stands after it depends on the reply.
use Rattle.std.specs.Prelude.{◌≡◌, ℕ, ◌-◌, ◌%◌, Bool, true, false, not, ◌&&◌, nat_lt, List, Option, Some, None, if◌then◌else◌}
use Rattle.usb_base.specs.declared.packets.Ask.{Ask}
use Rattle.usb_base.specs.declared.packets.Reply.{Reply}
use Rattle.word_mem.specs.Memory.{Mem}
use Rattle.link_words.specs.declared.kinds.Link.{Link}
use Rattle.link_words.specs.declared.kinds.Link.TheVariants as links
use Rattle.link_words.specs.declared.kinds.QtdLink.{QtdLink}
use Rattle.link_words.specs.declared.kinds.QtdLink.TheVariants as qtd_links
use Rattle.link_words.specs.Links.{link_of}
use Rattle.qh_qtd.specs.declared.qtd.Qtd.{Qtd}
use Rattle.qh_qtd.specs.declared.queue_head.Qh.{Qh}
use Rattle.qh_qtd.specs.Qtd.{IsQtdInRange}
use Rattle.qh_qtd.specs.QueueHead.{IsQhInRange}
use Rattle.op_registers.specs.RegisterFile.{RegisterFile}
use Rattle.op_registers.specs.Events.{after_advance, after_reclamation, after_fault}
use Rattle.toggle_error.specs.declared.host.Outcome.{Outcome}
use Rattle.mem_queues.specs.Structures.{qtd_at_address, qtd_was_read, queue_head_at_address, queue_head_was_read, reaches_queue_head}
use Rattle.hc_copy.specs.declared.held.Held.{Held}
use Rattle.hc_copy.specs.declared.held.Transaction.{Transaction}
use Rattle.hc_copy.specs.declared.held.Visit.{Visit}
use Rattle.hc_copy.specs.declared.held.Visit.TheVariants as visits
use Rattle.hc_copy.specs.Visits.{visit_of}
use Rattle.hc_copy.specs.Planning.{CanBeMade}
use Rattle.hc_copy.specs.Overlay.{advanced}
use Rattle.hc_copy.specs.Buffer.{Reading, Writing, sending}
use Rattle.hc_copy.specs.Transacting.{call_in, outcome_in, copy_after}
use Rattle.hc_copy.specs.WriteBack.{received, written_back, raised, overlay_after}
use Rattle.async_walk.specs.declared.rows.WalkRow.{WalkRow}
use Rattle.async_walk.specs.declared.rows.WalkRow.TheVariants as rows
use Rattle.async_walk.specs.declared.state.Cursor.{Cursor}
use Rattle.async_walk.specs.declared.state.Cursor.TheVariants as cursors
use Rattle.async_walk.specs.declared.state.ReloadMode.{ReloadMode}
use Rattle.async_walk.specs.declared.state.ReloadMode.TheVariants.{WaitHead}
use Rattle.async_walk.specs.declared.state.WalkStep.{WalkStep}
use Rattle.async_walk.specs.declared.state.WalkStep.TheVariants as steps
use Rattle.async_walk.specs.Walk.{Walk, begun, stopped}
use Rattle.async_walk.specs.Naks.{may_work, mode_after, reloaded, planned, counted_copy}

-- what an event reads and changes
pub record WalkPlace : Type 0 where
  pub walk : Walk
  pub registers : RegisterFile
  pub memory : Mem

abbrev pub place : Walk → RegisterFile → Mem → WalkPlace
place w r m = record { walk = w; registers = r; memory = m }

-- ---- the first event of a microframe (4.8.3, 4.9)

abbrev pub started_walk : Walk → Walk
started_walk w = record w { first = false; mode = if w.first then WaitHead else w.mode }

abbrev pub started_registers : Bool → RegisterFile → RegisterFile
started_registers first r = if first then after_reclamation r true else r

abbrev pub started : WalkPlace → WalkPlace
started p = record {
  walk = started_walk p.walk;
  registers = started_registers p.walk.first p.registers;
  memory = p.memory;
}

-- ---- which row it is

-- A queue head was read at the address a, or there is none. The head of the ring ends the part where nothing was done since it was read
-- last (4.8.3).
abbrev pub fetch_row : Bool → ℕ → Option Qh → WalkRow
fetch_row reclamation a None = rows.Fault
fetch_row reclamation a (Some q) = if q.head && not reclamation then rows.HeadEnds else rows.Fetch a q

-- no copy is in hand: the cursor's link leads to a queue head, or the ring is broken
abbrev pub ring_row : Mem → Bool → Link → WalkRow
ring_row m reclamation links.End = rows.Fault
ring_row m reclamation (links.Itd a) = rows.Fault
ring_row m reclamation (links.Qh a) = fetch_row reclamation a (queue_head_at_address m a)
ring_row m reclamation (links.Sitd a) = rows.Fault
ring_row m reclamation (links.Fstn a) = rows.Fault

-- the queue head works: by whether the price of its transaction passes the time left
abbrev pub work_row : Bool → Transaction → WalkRow
work_row true t = rows.OutOfTime
work_row false t = rows.Transact t

-- a qTD was read at the address a, or there is none
abbrev pub taken_row : ℕ → Option Qtd → WalkRow
taken_row a None = rows.Fault
taken_row a (Some t) = if t.token.active then rows.Advance a t else rows.Skip

abbrev pub take_row : Mem → QtdLink → WalkRow
take_row m qtd_links.End = rows.Skip
take_row m (qtd_links.To a) = taken_row a (qtd_at_address m a)

-- a copy that had no transaction yet
abbrev pub visit_row : Mem → ℕ → Qh → Visit → WalkRow
visit_row m left q visits.Rest = rows.Skip
visit_row m left q visits.Work = work_row (nat_lt left (planned q).price.0) (planned q)
visit_row m left q (visits.Take link) = take_row m link

abbrev pub held_row : Mem → ℕ → Qh → Option Outcome → WalkRow
held_row m left q None = visit_row m left q (visit_of (may_work q) q)
held_row m left q (Some s) = rows.WriteBack

-- the link of the cursor: the ring begins at ASYNCLISTADDR
abbrev pub cursor_link : RegisterFile → Cursor → Link
cursor_link r cursors.Start = links.Qh r.async_list_address
cursor_link r (cursors.At link) = link

abbrev pub row_at : WalkPlace → Option Held → WalkRow
row_at p None = ring_row p.memory p.registers.reclamation (cursor_link p.registers p.walk.cursor)
row_at p (Some h) = held_row p.memory p.walk.left h.queue_head h.settled

abbrev pub walk_row : WalkPlace → WalkRow
walk_row p = row_at p p.walk.held

-- what was read is in its range, and the transaction can be made
abbrev pub IsSound : WalkRow → Type 0
IsSound (rows.Fetch a q) = (a % 32 ≡ 0) × IsQhInRange q
IsSound (rows.Advance a t) = (a % 32 ≡ 0) × IsQtdInRange t
IsSound (rows.Transact t) = CanBeMade t
IsSound rows.Fault = Unit {0}
IsSound rows.HeadEnds = Unit {0}
IsSound rows.Skip = Unit {0}
IsSound rows.OutOfTime = Unit {0}
IsSound rows.WriteBack = Unit {0}

-- ---- what reading leaves of memory: a structure that isn't wholly Lent is one more refusal

abbrev pub ring_read : Mem → Link → Mem
ring_read m links.End = m
ring_read m (links.Itd a) = m
ring_read m (links.Qh a) = queue_head_was_read m a
ring_read m (links.Sitd a) = m
ring_read m (links.Fstn a) = m

abbrev pub take_read : Mem → QtdLink → Mem
take_read m qtd_links.End = m
take_read m (qtd_links.To a) = qtd_was_read m a

abbrev pub visit_read : Mem → Visit → Mem
visit_read m visits.Rest = m
visit_read m visits.Work = m
visit_read m (visits.Take link) = take_read m link

abbrev pub held_read : Mem → Qh → Option Outcome → Mem
held_read m q None = visit_read m (visit_of (may_work q) q)
held_read m q (Some s) = m

abbrev pub read_at : WalkPlace → Option Held → Mem
read_at p None = ring_read p.memory (cursor_link p.registers p.walk.cursor)
read_at p (Some h) = held_read p.memory h.queue_head h.settled

abbrev pub was_read : WalkPlace → WalkPlace
was_read p = record p { memory = read_at p p.walk.held }

-- ---- what stands after a row

-- the fault (4.15.2.4)
abbrev pub faulted : WalkPlace → WalkPlace
faulted p = record p { walk = stopped p.walk; registers = after_fault p.registers }

-- the head of the ring was read: the doorbell is answered (4.8.2)
abbrev pub head_read : RegisterFile → RegisterFile
head_read r = if r.doorbell then after_advance r else r

-- the next microframe begins at the start of the ring
abbrev pub restarted : Walk → Walk
restarted w = record w { cursor = cursors.Start }

abbrev pub head_ended : WalkPlace → WalkPlace
head_ended p = record p { walk = restarted p.walk; registers = head_read p.registers }

abbrev pub fetched_registers : Bool → RegisterFile → RegisterFile
fetched_registers false r = r
fetched_registers true r = head_read (after_reclamation r false)

abbrev pub fetched_walk : ℕ → Qh → Walk → Walk
fetched_walk a q w =
    let mode : ReloadMode = mode_after q w.mode in
    record w {
      cursor = cursors.At (links.Qh a);
      held = Some (record { at = a; queue_head = reloaded mode q; settled = None });
      mode = mode;
    }

abbrev pub fetched : ℕ → Qh → WalkPlace → WalkPlace
fetched a q p = record p { walk = fetched_walk a q p.walk; registers = fetched_registers q.head p.registers }

-- the visit is over: the copy's link comes next
abbrev pub passed_walk : Walk → Option Held → Walk
passed_walk w None = w
passed_walk w (Some h) = record w { cursor = cursors.At (link_of h.queue_head.link); held = None }

abbrev pub passed : WalkPlace → WalkPlace
passed p = record p { walk = passed_walk p.walk p.walk.held }

-- no time is left for it: the next microframe goes on at the same place
abbrev pub out_of_time : WalkPlace → WalkPlace
out_of_time p = record p { walk = stopped p.walk }

-- a qTD is taken and the overlay written; where the queue head isn't wholly Lent that is the fault
abbrev pub took : ℕ → Qtd → WalkPlace → Option Held → WalkPlace
took a t p None = p
took a t p (Some h) =
    let new : Qh = advanced h.queue_head a t in
    let written : WalkPlace = record p { memory = overlay_after p.memory h.at new } in
    if reaches_queue_head p.memory h.at then
    record written { walk = record p.walk { held = Some (record h { queue_head = new }) } }
    else faulted written

abbrev pub took_step : Mem → Option Held → WalkStep
took_step m None = steps.Advance
took_step m (Some h) = if reaches_queue_head m h.at then steps.Advance else steps.Fault

-- the write-back, and the visit is over; or the fault
abbrev pub wrote_place : Bool → Qh → Outcome → WalkPlace → WalkPlace
wrote_place true q outcome p = passed (record p { registers = raised q outcome p.registers })
wrote_place false q outcome p = faulted p

-- what the write-back of a copy writes
abbrev pub writing : Held → Outcome → Reply → Mem → Writing
writing h outcome reply m = written_back h.at h.queue_head outcome (received h.queue_head outcome reply) m

abbrev pub wrote_settled : WalkPlace → Held → Option Outcome → WalkPlace
wrote_settled p h None = p
wrote_settled p h (Some outcome) =
    let w : Writing = writing h outcome p.walk.reply p.memory in
    wrote_place w.all h.queue_head outcome (record p { memory = w.memory })

abbrev pub wrote : WalkPlace → Option Held → WalkPlace
wrote p None = p
wrote p (Some h) = wrote_settled p h h.settled

abbrev pub wrote_step_settled : WalkPlace → Held → Option Outcome → WalkStep
wrote_step_settled p h None = steps.WriteBack
wrote_step_settled p h (Some outcome) = if (writing h outcome p.walk.reply p.memory).all then steps.WriteBack else steps.Fault

abbrev pub wrote_step : WalkPlace → Option Held → WalkStep
wrote_step p None = steps.WriteBack
wrote_step p (Some h) = wrote_step_settled p h h.settled

-- a transaction that sent these bytes had this reply: the copy has what it came to, and the words will have it by the write-back
abbrev pub ring_copy : Transaction → List ℕ → Reply → Held → Held
ring_copy t out reply h = counted_copy (outcome_in t out false reply) reply (copy_after t out false reply h)

abbrev pub transacted : Transaction → Held → List ℕ → Reply → WalkPlace → WalkPlace
transacted t h out reply p = record p {
  walk = record p.walk {
    held = Some (ring_copy t out reply h);
    reply = reply;
    left = p.walk.left - t.price.0;
  };
  registers = after_reclamation p.registers true;
}

abbrev pub sent_step : Transaction → Mem → Option Held → WalkStep
sent_step t m None = steps.Transact
sent_step t m (Some h) = if (sending t h.queue_head m).all then steps.Transact else steps.Fault

-- the rows that don't ask the wire
abbrev pub after_walk_row : WalkRow → WalkPlace → WalkPlace
after_walk_row rows.Fault p = faulted p
after_walk_row rows.HeadEnds p = head_ended p
after_walk_row (rows.Fetch a q) p = fetched a q p
after_walk_row rows.Skip p = passed p
after_walk_row rows.OutOfTime p = out_of_time p
after_walk_row (rows.Advance a t) p = took a t p p.walk.held
after_walk_row (rows.Transact t) p = p
after_walk_row rows.WriteBack p = wrote p p.walk.held

abbrev pub step_of : WalkRow → WalkPlace → WalkStep
step_of rows.Fault p = steps.Fault
step_of rows.HeadEnds p = steps.Ended
step_of (rows.Fetch a q) p = steps.Fetch
step_of rows.Skip p = steps.Skip
step_of rows.OutOfTime p = steps.Ended
step_of (rows.Advance a t) p = took_step p.memory p.walk.held
step_of (rows.Transact t) p = sent_step t p.memory p.walk.held
step_of rows.WriteBack p = wrote_step p p.walk.held

-- ---- an event, over a wire of which only a relation is known

-- it was made once on the wire, and the place is what its reply leaves
pub record Transacted {W : Type 0} (transacts : W → Ask → List ℕ → Reply → W → Type 0) (t : Transaction) (h : Held) (out : List ℕ) (p : WalkPlace) (before : W) (new : WalkPlace)
    (after : W) : Type 0 where
  pub reply : Reply
  pub made : transacts before (call_in t out false).ask (call_in t out false).out reply after
  pub place : new ≡ transacted t h out reply p

abbrev pub Stays : {W : Type 0} → WalkPlace → W → WalkPlace → W → Type 0
Stays expected before new after = (new ≡ expected) × (after ≡ before)

-- by whether all bytes that it sends were read: else that is the fault, and nothing was asked
abbrev pub SentAt : {W : Type 0} → (W → Ask → List ℕ → Reply → W → Type 0) → Bool → Transaction → Held → Reading → WalkPlace → W → WalkPlace → W → Type 0
SentAt transacts true t h read p before new after = Transacted transacts t h read.bytes (record p { memory = read.memory }) before new after
SentAt transacts false t h read p before new after = Stays (faulted (record p { memory = read.memory })) before new after

abbrev pub Sends : {W : Type 0} → (W → Ask → List ℕ → Reply → W → Type 0) → Transaction → WalkPlace → Option Held → W → WalkPlace → W → Type 0
Sends transacts t p None before new after = Stays p before new after
Sends transacts t p (Some h) before new after =
    let read : Reading = sending t h.queue_head p.memory in
    SentAt transacts read.all t h read p before new after

abbrev pub Leads : {W : Type 0} → (W → Ask → List ℕ → Reply → W → Type 0) → WalkRow → WalkPlace → W → WalkPlace → W → Type 0
Leads transacts (rows.Transact t) p before new after = Sends transacts t p p.walk.held before new after
Leads transacts rows.Fault p before new after = Stays (after_walk_row rows.Fault p) before new after
Leads transacts rows.HeadEnds p before new after = Stays (after_walk_row rows.HeadEnds p) before new after
Leads transacts (rows.Fetch a q) p before new after = Stays (after_walk_row (rows.Fetch a q) p) before new after
Leads transacts rows.Skip p before new after = Stays (after_walk_row rows.Skip p) before new after
Leads transacts rows.OutOfTime p before new after = Stays (after_walk_row rows.OutOfTime p) before new after
Leads transacts (rows.Advance a t) p before new after = Stays (after_walk_row (rows.Advance a t) p) before new after
Leads transacts rows.WriteBack p before new after = Stays (after_walk_row rows.WriteBack p) before new after

-- the place at which an event is made: its first row was told, and what it reads was read
abbrev pub at_event : WalkPlace → WalkPlace
at_event p = was_read (started p)

abbrev pub event_row : WalkPlace → WalkRow
event_row p = walk_row (started p)

-- the next microframe begins once this event was made, with this time, registers and memory
abbrev pub begun_after : WalkPlace → ℕ → RegisterFile → Mem → WalkPlace
begun_after p left r m = place (begun (after_walk_row (event_row p) (at_event p)).walk left) r m
