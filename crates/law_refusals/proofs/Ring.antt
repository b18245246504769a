-- An event of the ring's walk goes on, or stops with at most one refusal counted more.
use Rattle.std.proofs.Common.{◌≡◌, ℕ, Bool, true, false, List, Option, Some, None, if◌then◌else◌, refl, ap, sym, subst, ◌∙◌, ⊎_elim, inl}
use Rattle.usb_base.specs.declared.packets.Ask.{Ask}
use Rattle.usb_base.specs.declared.packets.Reply.{Reply}
use Rattle.word_mem.specs.Memory.{Mem, reaches}
use Rattle.link_words.specs.declared.kinds.Link.{Link}
use Rattle.link_words.specs.declared.kinds.Link.TheVariants as links
use Rattle.link_words.specs.declared.kinds.QtdLink.TheVariants as qtd_links
use Rattle.qh_qtd.specs.declared.queue_head.Qh.{Qh}
use Rattle.op_registers.specs.RegisterFile.{RegisterFile}
use Rattle.op_registers.specs.Events.{after_advance, after_reclamation}
use Rattle.toggle_error.specs.declared.host.Outcome.{Outcome}
use Rattle.mem_queues.specs.Structures.{reaches_queue_head}
use Rattle.hc_copy.specs.declared.held.Held.{Held}
use Rattle.hc_copy.specs.declared.held.Transaction.{Transaction}
use Rattle.hc_copy.specs.declared.held.Visit.{Visit}
use Rattle.hc_copy.specs.declared.held.Visit.TheVariants as visits
use Rattle.hc_copy.specs.Visits.{visit_of}
use Rattle.hc_copy.specs.Overlay.{pages_of, buffer_place, advanced}
use Rattle.hc_copy.specs.Buffer.{Reading, Writing, sending}
use Rattle.hc_copy.specs.WriteBack.{received, overlay_after, raised}
use Rattle.async_walk.specs.declared.rows.WalkRow.{WalkRow}
use Rattle.async_walk.specs.declared.rows.WalkRow.TheVariants as rows
use Rattle.async_walk.specs.Naks.{planned, may_work}
use Rattle.async_walk.specs.Rows.{WalkPlace, faulted, head_read, fetched_registers, took, wrote, wrote_place, wrote_settled, writing, transacted, ring_read, visit_read, held_read, read_at, cursor_link, SentAt, Sends, Leads, walk_row, was_read, started, started_registers, at_event, event_row}
use Rattle.async_walk.specs.Causes.{Cause}
use Rattle.async_walk.specs.Causes.Cause.{ring_is_broken, head_is_quiet, leads_to, is_resting, queue_ends, qtd_is_done, queue_is_broken, takes_qtd, is_out_of_time, has_time, is_settled}
use Rattle.async_walk.proofs.Causes.{each_row_has_its_cause}
use Rattle.async_walk.proofs.Steps.{reads_here}
use Rattle.async_walk.proofs.Refusals.{overlay_counts}
use Rattle.law_refusals.specs.Refusals.{IsOnce, GoesOnOrStops}
use Rattle.law_refusals.proofs.Counting.{IsCounted, read_once, overlay_once, sent_once, sent_same, written_counted, goes_on, stops, before_it}

-- ---- registers that keep Run and Host System Error

if_run : (b : Bool) (s r t : RegisterFile) → s.run ≡ t.run → r.run ≡ t.run → (if b then s else r).run ≡ t.run
if_run true s r t same other = same
if_run false s r t same other = other

if_error : (b : Bool) (s r t : RegisterFile) → s.host_system_error ≡ t.host_system_error → r.host_system_error ≡ t.host_system_error → (if b then s else r).host_system_error ≡ t.host_system_error
if_error true s r t same other = same
if_error false s r t same other = other

-- the doorbell is answered
head_run : (r : RegisterFile) → (head_read r).run ≡ r.run
head_run r = if_run r.doorbell (after_advance r) r r refl refl

head_error : (r : RegisterFile) → (head_read r).host_system_error ≡ r.host_system_error
head_error r = if_error r.doorbell (after_advance r) r r refl refl

fetched_run : (head : Bool) (r : RegisterFile) → (fetched_registers head r).run ≡ r.run
fetched_run true r = head_run (after_reclamation r false)
fetched_run false r = refl

fetched_error : (head : Bool) (r : RegisterFile) → (fetched_registers head r).host_system_error ≡ r.host_system_error
fetched_error true r = head_error (after_reclamation r false)
fetched_error false r = refl

pub raised_run : (q : Qh) (outcome : Outcome) (r : RegisterFile) → (raised q outcome r).run ≡ r.run
unfolding raised
raised_run q outcome r = refl

pub raised_error : (q : Qh) (outcome : Outcome) (r : RegisterFile) → (raised q outcome r).host_system_error ≡ r.host_system_error
unfolding raised
raised_error q outcome r = refl

-- what an event leaves of a place
abbrev Counts : WalkPlace → WalkPlace → Type 0
Counts p new = GoesOnOrStops p.registers p.memory new.registers new.memory

-- at these registers and this count it went on
still : (p new : WalkPlace) → new.registers.run ≡ p.registers.run → new.registers.host_system_error ≡ p.registers.host_system_error → new.memory.foreign ≡ p.memory.foreign → Counts p new
still p new run error count = goes_on p.registers new.registers p.memory new.memory run error count

-- it was the fault, over memory that some reads or writes left
stuck : (p from : WalkPlace) → IsOnce p.memory.foreign from.memory.foreign → Counts p (faulted from)
stuck p from once = stops p.registers (faulted from).registers p.memory from.memory refl refl once

counts_at : (p new expected : WalkPlace) → new ≡ expected → Counts p expected → Counts p new
counts_at p new expected is counts = subst (λ (x : WalkPlace). Counts p x) (sym is) counts

-- by whether all of it was done: else it is the fault
if_counts : (b : Bool) (p done failed : WalkPlace) → (b ≡ true → Counts p done) → Counts p failed → Counts p (if b then done else failed)
if_counts true p done failed goes fails = goes refl
if_counts false p done failed goes fails = fails

wrote_counts : (b : Bool) (q : Qh) (outcome : Outcome) (p : WalkPlace) (m : Mem) → IsCounted p.memory (record { memory = m; all = b }) → Counts p (wrote_place b q outcome (record p { memory = m }))
wrote_counts true q outcome p m counted =
    still p (wrote_place true q outcome (record p { memory = m })) (raised_run q outcome p.registers) (raised_error q outcome p.registers) (counted.same refl)
wrote_counts false q outcome p m counted = stuck p (record p { memory = m }) counted.once

module _ {W : Type 0} (transacts : W → Ask → List ℕ → Reply → W → Type 0) (p new : WalkPlace) (before after : W) where
  sent_counts : (b : Bool) (t : Transaction) (h : Held) (read : Reading) → (b ≡ true → read.memory.foreign ≡ p.memory.foreign) → IsOnce p.memory.foreign read.memory.foreign → SentAt transacts b t h read p before new after → Counts p new
  sent_counts true t h read same once sent =
      let made : WalkPlace = transacted t h read.bytes sent.reply (record p { memory = read.memory }) in
      counts_at p new made sent.place (still p made refl refl (same refl))
  sent_counts false t h read same once sent = counts_at p new (faulted (record p { memory = read.memory })) sent.0 (stuck p (record p { memory = read.memory }) once)

  row_counts : (row : WalkRow) → Cause p row → Leads transacts row p before new after → Counts p new
  row_counts _ (ring_is_broken c) leads = counts_at p new (faulted p) leads.0 (stuck p p (inl refl))
  row_counts _ (head_is_quiet c) leads = counts_at p new _ leads.0 (goes_on p.registers _ p.memory _ (head_run p.registers) (head_error p.registers) refl)
  row_counts _ (leads_to at q c) leads = counts_at p new _ leads.0 (goes_on p.registers _ p.memory _ (fetched_run q.head p.registers) (fetched_error q.head p.registers) refl)
  row_counts _ (is_resting c) leads = counts_at p new _ leads.0 (goes_on p.registers _ p.memory _ refl refl refl)
  row_counts _ (queue_ends c) leads = counts_at p new _ leads.0 (goes_on p.registers _ p.memory _ refl refl refl)
  row_counts _ (qtd_is_done c) leads = counts_at p new _ leads.0 (goes_on p.registers _ p.memory _ refl refl refl)
  row_counts _ (queue_is_broken c) leads = counts_at p new (faulted p) leads.0 (stuck p p (inl refl))
  row_counts _ (takes_qtd at qtd c) leads =
      counts_at p new (took at qtd p (Some c.copy)) (leads.0 ∙ ap (took at qtd p) c.comes.visited.in_hand)
      (if_counts (reaches_queue_head p.memory c.copy.at) p _ _
      (λ reach. goes_on p.registers _ p.memory _ refl refl (overlay_counts p.memory c.copy.at (advanced c.copy.queue_head at qtd) reach))
      (stuck p (record p { memory = overlay_after p.memory c.copy.at (advanced c.copy.queue_head at qtd) }) (overlay_once p.memory c.copy.at (advanced c.copy.queue_head at qtd))))
  row_counts _ (is_out_of_time c) leads = counts_at p new _ leads.0 (goes_on p.registers _ p.memory _ refl refl refl)
  row_counts _ (has_time copy c) leads =
      let t : Transaction = planned copy.queue_head in
      let read : Reading = sending t copy.queue_head p.memory in
      sent_counts read.all t copy read (λ all. sent_same (pages_of copy.queue_head) (buffer_place copy.queue_head) t.bytes p.memory all)
      (sent_once (pages_of copy.queue_head) (buffer_place copy.queue_head) t.bytes p.memory)
      (subst (λ (o : Option Held). Sends transacts t p o before new after) c.visited.in_hand leads)
  row_counts _ (is_settled copy outcome c) leads =
      let w : Writing = writing copy outcome p.walk.reply p.memory in
      counts_at p new (wrote_settled p copy (Some outcome)) (leads.0 ∙ ap (wrote p) c.in_hand ∙ ap (wrote_settled p copy) c.settled)
      (wrote_counts w.all copy.queue_head outcome p w.memory
      (written_counted copy.at copy.queue_head outcome (received copy.queue_head outcome p.walk.reply) p.memory))

-- ---- what is read

ring_once : (m : Mem) (link : Link) → IsOnce m.foreign (ring_read m link).foreign
ring_once m (links.Qh a) = read_once (reaches_queue_head m a) m
ring_once m _ = inl refl

visit_once : (m : Mem) (visit : Visit) → IsOnce m.foreign (visit_read m visit).foreign
visit_once m (visits.Take (qtd_links.To a)) = read_once (reaches m a) m
visit_once m _ = inl refl

held_once : (m : Mem) (q : Qh) (o : Option Outcome) → IsOnce m.foreign (held_read m q o).foreign
held_once m q None = visit_once m (visit_of (may_work q) q)
held_once m q (Some outcome) = inl refl

at_once : (p : WalkPlace) (o : Option Held) → IsOnce p.memory.foreign (read_at p o).foreign
at_once p None = ring_once p.memory (cursor_link p.registers p.walk.cursor)
at_once p (Some h) = held_once p.memory h.queue_head h.settled

-- what was read is read before, and only the fault is refused then
read_counts : {W : Type 0} (transacts : W → Ask → List ℕ → Reply → W → Type 0) (p new : WalkPlace) (before after : W) → Leads transacts (walk_row p) (was_read p) before new after → Counts p new
read_counts transacts p new before after leads =
    ⊎_elim (λ (fault : walk_row p ≡ rows.Fault).
    let stays : Leads transacts rows.Fault (was_read p) before new after = subst (λ (row : WalkRow). Leads transacts row (was_read p) before new after) fault leads in
    counts_at p new (faulted (was_read p)) stays.0 (stuck p (was_read p) (at_once p p.walk.held)))
    (λ (same : was_read p ≡ p).
    row_counts transacts p new before after (walk_row p) (each_row_has_its_cause p)
    (subst (λ (x : WalkPlace). Leads transacts (walk_row p) x before new after) same leads))
    (reads_here p (walk_row p) (each_row_has_its_cause p))

-- ---- of an event

started_run : (first : Bool) (r : RegisterFile) → (started_registers first r).run ≡ r.run
started_run first r = if_run first (after_reclamation r true) r r refl refl

started_error : (first : Bool) (r : RegisterFile) → (started_registers first r).host_system_error ≡ r.host_system_error
started_error first r = if_error first (after_reclamation r true) r r refl refl

pub ring_counts : {W : Type 0} (transacts : W → Ask → List ℕ → Reply → W → Type 0) (p new : WalkPlace) (before after : W) → Leads transacts (event_row p) (at_event p) before new after → GoesOnOrStops p.registers p.memory new.registers new.memory
ring_counts transacts p new before after leads =
    before_it p.registers (started p).registers p.memory new.registers new.memory (started_run p.walk.first p.registers) (started_error p.walk.first p.registers)
    (read_counts transacts (started p) new before after leads)
