-- An event of the walk of the ring with a queue head in hand leaves fewer events of the visit (EHCI 1.0, 4.8, 4.10, 4.10.2 and 4.10.3).
use Rattle.std.proofs.Common.{◌≡◌, ℕ, ◌<◌, ◌≤◌, Bool, true, false, List, Option, Some, None, refl, sym, subst, arith}
use Rattle.std.specs.Prelude.{nat_lt, not, ◌&&◌, if◌then◌else◌}
use Rattle.usb_base.specs.declared.packets.Ask.{Ask}
use Rattle.usb_base.specs.declared.packets.Reply.{Reply}
use Rattle.word_mem.specs.Memory.{Mem}
use Rattle.link_words.specs.declared.kinds.Link.{Link}
use Rattle.link_words.specs.declared.kinds.Link.TheVariants as links
use Rattle.link_words.specs.declared.kinds.QtdLink.{QtdLink}
use Rattle.link_words.specs.declared.kinds.QtdLink.TheVariants as qtd_links
use Rattle.link_words.specs.Links.{qtd_link_of}
use Rattle.qh_qtd.specs.declared.qtd.Qtd.{Qtd}
use Rattle.qh_qtd.specs.declared.queue_head.Qh.{Qh}
use Rattle.toggle_error.specs.declared.host.Outcome.{Outcome}
use Rattle.mem_queues.specs.Structures.{qtd_at_address, queue_head_at_address, reaches_queue_head}
use Rattle.hc_copy.specs.declared.held.Held.{Held}
use Rattle.hc_copy.specs.declared.held.Transaction.{Transaction}
use Rattle.hc_copy.specs.Visits.{visit_at, next_pointer}
use Rattle.hc_copy.specs.Overlay.{advanced}
use Rattle.hc_copy.specs.Buffer.{Reading, sending}
use Rattle.hc_copy.specs.WriteBack.{overlay_after}
use Rattle.async_walk.specs.declared.rows.WalkRow.{WalkRow}
use Rattle.async_walk.specs.declared.rows.WalkRow.TheVariants as rows
use Rattle.async_walk.specs.Naks.{may_work, planned, mode_after, reloaded}
use Rattle.async_walk.specs.Walk.{Walk}
use Rattle.async_walk.specs.Rows.{WalkPlace, fetch_row, ring_row, work_row, taken_row, take_row, visit_row, held_row, row_at, cursor_link, started, at_event, event_row, faulted, passed_walk, passed, took, wrote_place, wrote_settled, wrote, writing, SentAt, Sends, Leads}
use Rattle.law_microframes.specs.time.VisitSteps.{copy_steps, ring_steps, RingEventsFall, RingFetchesBegin}

-- ---- what a row needs

some_steps : (active : Bool) (o : Option Outcome) → 0 < copy_steps active o
some_steps active (Some outcome) = omega arith
some_steps true None = omega arith
some_steps false None = omega arith

abbrev IsSettled : Option Outcome → Type 0
IsSettled None = ⊥
IsSettled (Some outcome) = Unit {0}

abbrev Fits : Bool → Option Outcome → WalkRow → Type 0
Fits active o rows.Fault = Unit {0}
Fits active o rows.HeadEnds = ⊥
Fits active o (rows.Fetch a q) = ⊥
Fits active o rows.Skip = Unit {0}
Fits active o rows.OutOfTime = Unit {0}
Fits active o (rows.Advance a t) = (o ≡ None) × ((active ≡ false) × (t.token.active ≡ true))
Fits active o (rows.Transact t) = o ≡ None
Fits active o rows.WriteBack = IsSettled o

worked : (active late : Bool) (t : Transaction) → Fits active None (work_row late t)
worked active true t = tt
worked active false t = refl

active_fits : (a : ℕ) (t : Qtd) (b : Bool) → t.token.active ≡ b → Fits false None (if b then rows.Advance a t else rows.Skip)
active_fits a t true e = (refl, (refl, e))
active_fits a t false e = tt

taken_fits : (a : ℕ) (o : Option Qtd) → Fits false None (taken_row a o)
taken_fits a None = tt
taken_fits a (Some t) = active_fits a t t.token.active refl

take_fits : (m : Mem) (link : QtdLink) → Fits false None (take_row m link)
take_fits m qtd_links.End = tt
take_fits m (qtd_links.To a) = taken_fits a (qtd_at_address m a)

visit_fits : (m : Mem) (left : ℕ) (q : Qh) (may halted active : Bool) (link : QtdLink) → Fits active None (visit_row m left q (visit_at may halted active link))
visit_fits m left q false halted active link = tt
visit_fits m left q true true active link = tt
visit_fits m left q true false true link = worked true (nat_lt left (planned q).price.0) (planned q)
visit_fits m left q true false false link = take_fits m link

held_fits : (m : Mem) (left : ℕ) (q : Qh) (o : Option Outcome) → Fits q.token.active o (held_row m left q o)
held_fits m left q None = visit_fits m left q (may_work q) q.token.halted q.token.active (qtd_link_of (next_pointer q))
held_fits m left q (Some outcome) = tt

-- ---- what each row leaves

passed_none : (w : Walk) (h : Held) (o : Option Held) → o ≡ Some h → (passed_walk w o).held ≡ None
passed_none w h o e = subst (λ (z : Option Held). (passed_walk w z).held ≡ None) (sym e) refl

advanced_active : (q : Qh) (a : ℕ) (t : Qtd) → (advanced q a t).token.active ≡ t.token.active
unfolding advanced
advanced_active q a t = refl

took_at : (n : ℕ) (p written : WalkPlace) (h : Held) (b : Bool) → 2 < n → copy_steps h.queue_head.token.active h.settled < n
    → ring_steps (if b then record written { walk = record p.walk { held = Some h } } else faulted written).walk.held < n
took_at n p written h true some less = less
took_at n p written h false some less = omega (arith, some)

new_steps : (q : Qh) (a : ℕ) (t : Qtd) (o : Option Outcome) → o ≡ None → t.token.active ≡ true → copy_steps (advanced q a t).token.active o ≡ 2
new_steps q a t o none on = rw (none, advanced_active q a t, on) refl

old_steps : (active : Bool) (o : Option Outcome) → o ≡ None → active ≡ false → copy_steps active o ≡ 3
old_steps active o none off = rw (none, off) refl

took_some : (p : WalkPlace) (h : Held) (a : ℕ) (t : Qtd) → h.settled ≡ None → h.queue_head.token.active ≡ false → t.token.active ≡ true
    → ring_steps (took a t p (Some h)).walk.held < copy_steps h.queue_head.token.active h.settled
took_some p h a t none off on =
    let old = old_steps h.queue_head.token.active h.settled none off in
    let new = new_steps h.queue_head a t h.settled none on in
    took_at (copy_steps h.queue_head.token.active h.settled) p (record p { memory = overlay_after p.memory h.at (advanced h.queue_head a t) }) (record h { queue_head = advanced h.queue_head a t })
    (reaches_queue_head p.memory h.at) (omega (arith, old)) (omega (arith, old, new))

one_less : (active : Bool) (o : Option Outcome) → o ≡ None → 1 < copy_steps active o
one_less true o none = rw none (omega arith)
one_less false o none = rw none (omega arith)

wrote_none : (b : Bool) (q : Qh) (outcome : Outcome) (p : WalkPlace) (h : Held) → p.walk.held ≡ Some h → (wrote_place b q outcome p).walk.held ≡ None
wrote_none true q outcome p h e = passed_none p.walk h p.walk.held e
wrote_none false q outcome p h e = refl

no_steps : (n : ℕ) (o : Option Held) → o ≡ None → 0 < n → ring_steps o < n
no_steps n o e some = subst (λ (z : Option Held). ring_steps z < n) (sym e) some

wrote_least : (p : WalkPlace) (h : Held) (o : Option Outcome) → IsSettled o → p.walk.held ≡ Some h → (wrote_settled p h o).walk.held ≡ None
wrote_least p h None settled e = absurd settled
wrote_least p h (Some outcome) settled e =
    wrote_none (writing h outcome p.walk.reply p.memory).all h.queue_head outcome (record p { memory = (writing h outcome p.walk.reply p.memory).memory }) h e

sent_less : {W : Type 0} (transacts : W → Ask → List ℕ → Reply → W → Type 0) (all : Bool) (t : Transaction) (h : Held) (read : Reading) (p new : WalkPlace) (before after : W) → h.settled ≡ None
    → SentAt transacts all t h read p before new after → ring_steps new.walk.held < copy_steps h.queue_head.token.active h.settled
sent_less transacts true t h read p new before after none sent =
    subst (λ (z : WalkPlace). ring_steps z.walk.held < copy_steps h.queue_head.token.active h.settled) (sym sent.place) (one_less h.queue_head.token.active h.settled none)
sent_less transacts false t h read p new before after none sent =
    subst (λ (z : WalkPlace). ring_steps z.walk.held < copy_steps h.queue_head.token.active h.settled) (sym sent.0) (some_steps h.queue_head.token.active h.settled)

-- ---- any event

abbrev Less : Held → WalkPlace → Type 0
Less h p = ring_steps p.walk.held < copy_steps h.queue_head.token.active h.settled

none_less : (h : Held) (p : WalkPlace) → p.walk.held ≡ None → Less h p
none_less h p e = no_steps (copy_steps h.queue_head.token.active h.settled) p.walk.held e (some_steps h.queue_head.token.active h.settled)

row_less : {W : Type 0} (transacts : W → Ask → List ℕ → Reply → W → Type 0) (row : WalkRow) (p new : WalkPlace) (before after : W) (h : Held) → p.walk.held ≡ Some h → Fits h.queue_head.token.active h.settled row
    → Leads transacts row p before new after → Less h new
row_less transacts rows.HeadEnds p new before after h e fits stays = absurd fits
row_less transacts (rows.Fetch a q) p new before after h e fits stays = absurd fits
row_less transacts rows.Skip p new before after h e fits stays = subst (Less h) (sym stays.0) (none_less h (passed p) (passed_none p.walk h p.walk.held e))
row_less transacts (rows.Advance a t) p new before after h e fits stays =
    subst (Less h) (sym stays.0) (subst (λ (o : Option Held). Less h (took a t p o)) (sym e) (took_some p h a t fits.0 fits.1.0 fits.1.1))
row_less transacts (rows.Transact t) p new before after h e fits sends =
    let sent : Sends transacts t p (Some h) before new after = subst (λ (o : Option Held). Sends transacts t p o before new after) e sends in
    sent_less transacts (sending t h.queue_head p.memory).all t h (sending t h.queue_head p.memory) p new before after fits sent
row_less transacts rows.WriteBack p new before after h e fits stays =
    subst (Less h) (sym stays.0) (subst (λ (o : Option Held). Less h (wrote p o)) (sym e) (none_less h (wrote_settled p h h.settled) (wrote_least p h h.settled fits e)))
row_less transacts _ p new before after h e fits stays = subst (Less h) (sym stays.0) (some_steps h.queue_head.token.active h.settled)

fits_at : (p : WalkPlace) (h : Held) (o : Option Held) → o ≡ Some h → Fits h.queue_head.token.active h.settled (row_at p o)
fits_at p h o e = subst (λ (z : Option Held). Fits h.queue_head.token.active h.settled (row_at p z)) (sym e) (held_fits p.memory p.walk.left h.queue_head h.settled)

pub ring_events_fall : {W : Type 0} (transacts : W → Ask → List ℕ → Reply → W → Type 0) → RingEventsFall transacts
ring_events_fall transacts p new before after h e leads =
    let less : Less h new = row_less transacts (event_row p) (at_event p) new before after h e (fits_at (started p) h p.walk.held e) leads in
    subst (λ (o : Option Held). ring_steps new.walk.held < ring_steps o) (sym e) less

-- ---- with nothing in hand

abbrev Begins : WalkRow → Type 0
Begins rows.Fault = Unit {0}
Begins rows.HeadEnds = Unit {0}
Begins (rows.Fetch a q) = Unit {0}
Begins rows.Skip = ⊥
Begins rows.OutOfTime = ⊥
Begins (rows.Advance a t) = ⊥
Begins (rows.Transact t) = ⊥
Begins rows.WriteBack = ⊥

either_begins : (b : Bool) (a : ℕ) (q : Qh) → Begins (if b then rows.HeadEnds else rows.Fetch a q)
either_begins true a q = tt
either_begins false a q = tt

fetch_begins : (reclamation : Bool) (a : ℕ) (o : Option Qh) → Begins (fetch_row reclamation a o)
fetch_begins reclamation a None = tt
fetch_begins reclamation a (Some q) = either_begins (q.head && not reclamation) a q

ring_begins : (m : Mem) (reclamation : Bool) (link : Link) → Begins (ring_row m reclamation link)
ring_begins m reclamation (links.Qh a) = fetch_begins reclamation a (queue_head_at_address m a)
ring_begins m reclamation _ = tt

begins_at : (p : WalkPlace) (o : Option Held) → o ≡ None → Begins (row_at p o)
begins_at p o e = subst (λ (z : Option Held). Begins (row_at p z)) (sym e) (ring_begins p.memory p.registers.reclamation (cursor_link p.registers p.walk.cursor))

most_three : (active : Bool) → copy_steps active None ≤ 3
most_three true = omega arith
most_three false = omega arith

row_begins : {W : Type 0} (transacts : W → Ask → List ℕ → Reply → W → Type 0) (row : WalkRow) (p new : WalkPlace) (before after : W) → p.walk.held ≡ None → Begins row → Leads transacts row p before new after
    → ring_steps new.walk.held ≤ 3
row_begins transacts rows.Fault p new before after e begins stays = subst (λ (z : WalkPlace). ring_steps z.walk.held ≤ 3) (sym stays.0) (omega arith)
row_begins transacts rows.HeadEnds p new before after e begins stays =
    subst (λ (z : WalkPlace). ring_steps z.walk.held ≤ 3) (sym stays.0) (subst (λ (o : Option Held). ring_steps o ≤ 3) (sym e) (omega arith))
row_begins transacts (rows.Fetch a q) p new before after e begins stays =
    subst (λ (z : WalkPlace). ring_steps z.walk.held ≤ 3) (sym stays.0) (most_three (reloaded (mode_after q p.walk.mode) q).token.active)
row_begins transacts _ p new before after e begins stays = absurd begins

pub ring_fetches_begin : {W : Type 0} (transacts : W → Ask → List ℕ → Reply → W → Type 0) → RingFetchesBegin transacts
ring_fetches_begin transacts p new before after e leads = row_begins transacts (event_row p) (at_event p) new before after e (begins_at (started p) p.walk.held e) leads
