-- An event that is held up leaves the words.
use Rattle.std.proofs.Common.{◌≡◌, ℕ, ◌+◌, Bool, true, false, List, Option, None, Some, if◌then◌else◌, refl, ap, sym, ◌∙◌}
use Rattle.std.specs.Prelude.{is_some, nat_le}
use Rattle.std.proofs.lemmas.Bool.{false≢true}
use Rattle.usb_base.specs.declared.packets.Ask.{Ask}
use Rattle.usb_base.specs.declared.packets.Reply.{Reply}
use Rattle.word_mem.specs.Memory.{Mem, refused}
use Rattle.mem_bytes.specs.Bytes.{all_reached}
use Rattle.link_words.specs.declared.kinds.Link.{Link}
use Rattle.link_words.specs.declared.kinds.Link.TheVariants as links
use Rattle.link_words.specs.declared.kinds.QtdLink.{QtdLink}
use Rattle.link_words.specs.declared.kinds.QtdLink.TheVariants as qtd_links
use Rattle.qh_qtd.specs.declared.queue_head.Qh.{Qh}
use Rattle.toggle_error.specs.declared.host.Outcome.{Outcome}
use Rattle.mem_queues.proofs.WriteBack.{words_read, words_head_read}
use Rattle.hc_copy.specs.Buffer.{Reading, size_of, bytes_read, sending}
use Rattle.hc_copy.specs.Overlay.{pages_of, buffer_place}
use Rattle.hc_copy.specs.Visits.{visit_of}
use Rattle.hc_copy.specs.declared.held.Held.{Held}
use Rattle.hc_copy.specs.declared.held.Transaction.{Transaction}
use Rattle.hc_copy.specs.declared.held.Visit.{Visit}
use Rattle.hc_copy.specs.declared.held.Visit.TheVariants as visits
use Rattle.hc_interrupt.specs.declared.turns.Turn.{Turn}
use Rattle.hc_interrupt.specs.declared.turns.Turn.TheVariants as turns
use Rattle.hc_interrupt.specs.Turns.{turn_of}
use Rattle.hc_iso.specs.declared.held.HeldItd.{HeldItd}
use Rattle.hc_iso.specs.declared.held.HeldSitd.{HeldSitd}
use Rattle.hc_iso.specs.Sitd.{sitd_place}
use Rattle.hc_iso.specs.WriteBack.{itd_pages, slot_place, sitd_pages}
use Rattle.async_walk.specs.declared.rows.WalkRow.{WalkRow}
use Rattle.async_walk.specs.declared.rows.WalkRow.TheVariants as rows
use Rattle.async_walk.specs.Naks.{may_work}
use Rattle.async_walk.specs.Rows.{WalkPlace, cursor_link, ring_read, take_read, visit_read, held_read, read_at, started}
use Rattle.async_walk.specs.Rows.{at_event, event_row, SentAt, Sends, Leads}
use Rattle.periodic_walk.specs.declared.itd.ItdRow.{ItdRow}
use Rattle.periodic_walk.specs.declared.itd.ItdRow.TheVariants as itd_rows
use Rattle.periodic_walk.specs.declared.queue.QueueRow.{QueueRow}
use Rattle.periodic_walk.specs.declared.queue.QueueRow.TheVariants as queue_rows
use Rattle.periodic_walk.specs.declared.sitd.SitdRow.{SitdRow}
use Rattle.periodic_walk.specs.declared.sitd.SitdRow.TheVariants as sitd_rows
use Rattle.periodic_walk.specs.declared.state.Hand.{Hand}
use Rattle.periodic_walk.specs.declared.state.Hand.TheVariants as hands
use Rattle.periodic_walk.specs.declared.state.HeldQueue.{HeldQueue}
use Rattle.periodic_walk.specs.Place.{FramePlace, reading, sent, HasEffect}
use Rattle.periodic_walk.specs.Queue.{take_read as link_read, turn_read, settled_read, queue_read, queue_row, queue_effect}
use Rattle.periodic_walk.specs.Itd.{itd_row, itd_effect}
use Rattle.periodic_walk.specs.Sitd.{sitd_row, sitd_effect}
use Rattle.periodic_walk.specs.Rows.{effect_at}
use Rattle.hc_core.specs.declared.controller.ControllerRow.{ControllerRow}
use Rattle.hc_core.specs.declared.controller.ControllerRow.TheVariants as events
use Rattle.hc_core.specs.Controller.{Content, microframe_row, HasRow, entered, walk_place, frame_place}
use Rattle.hc_microframe.specs.declared.answers.Wanted.{Wanted}
use Rattle.hc_microframe.specs.Answers.{Told, Begins, Answers}
use Rattle.hc_microframe.specs.Microframe.{IsEvent}

-- nothing was asked
pub silent : (P : Type 0) (before after : Told) → before.wanted ≡ None → is_some after.wanted ≡ true → after ≡ before → P
silent P before after none some same =
    let no : is_some after.wanted ≡ false = ap (λ (t : Told). is_some t.wanted) same ∙ ap (λ (w : Option Wanted). is_some w) none in
    absurd (false≢true (sym no ∙ some))

-- ---- reads leave the words

both_ways : {A : Type 0} (P : A → Type 0) (b : Bool) (x y : A) → P x → P y → P (if b then x else y)
both_ways P true x y one other = one
both_ways P false x y one other = other

bytes_kept : (pages : List ℕ) (from n : ℕ) (m : Mem) → (bytes_read pages from n m).memory.words ≡ m.words
bytes_kept pages from n m =
    both_ways (λ (q : Mem). q.words ≡ m.words) (nat_le (from + n) (size_of pages)) (if all_reached m pages from n then m else refused m) m
    (both_ways (λ (q : Mem). q.words ≡ m.words) (all_reached m pages from n) m (refused m) refl refl) refl

take_kept : (m : Mem) (link : QtdLink) → (take_read m link).words ≡ m.words
take_kept m qtd_links.End = refl
take_kept m (qtd_links.To a) = words_read m a

visit_kept : (m : Mem) (visit : Visit) → (visit_read m visit).words ≡ m.words
visit_kept m visits.Rest = refl
visit_kept m visits.Work = refl
visit_kept m (visits.Take link) = take_kept m link

held_kept : (m : Mem) (q : Qh) (settled : Option Outcome) → (held_read m q settled).words ≡ m.words
held_kept m q None = visit_kept m (visit_of (may_work q) q)
held_kept m q (Some s) = refl

ring_kept : (m : Mem) (link : Link) → (ring_read m link).words ≡ m.words
ring_kept m links.End = refl
ring_kept m (links.Itd a) = refl
ring_kept m (links.Qh a) = words_head_read m a
ring_kept m (links.Sitd a) = refl
ring_kept m (links.Fstn a) = refl

read_kept : (p : WalkPlace) (held : Option Held) → (read_at p held).words ≡ p.memory.words
read_kept p None = ring_kept p.memory (cursor_link p.registers p.walk.cursor)
read_kept p (Some h) = held_kept p.memory h.queue_head h.settled

place_kept : (p : WalkPlace) → (at_event p).memory.words ≡ p.memory.words
place_kept p = read_kept (started p) (started p).walk.held

link_kept : (m : Mem) (link : QtdLink) → (link_read m link).words ≡ m.words
link_kept m qtd_links.End = refl
link_kept m (qtd_links.To a) = words_read m a

turn_kept : (m : Mem) (turn : Turn) → (turn_read m turn).words ≡ m.words
turn_kept m turns.Rest = refl
turn_kept m turns.Work = refl
turn_kept m turns.Miss = refl
turn_kept m (turns.Take link) = link_kept m link

settled_kept : (m : Mem) (f : ℕ) (q : Qh) (settled : Option Outcome) → (settled_read m f q settled).words ≡ m.words
settled_kept m f q None = turn_kept m (turn_of f q)
settled_kept m f q (Some outcome) = refl

-- ---- the ring

sent_kept : (b : Bool) (t : Transaction) (h : Held) (read : Reading) (p new : WalkPlace) (before after : Told)
    → before.wanted ≡ None → is_some after.wanted ≡ true → read.memory.words ≡ p.memory.words
    → SentAt Answers b t h read p before new after → new.memory.words ≡ p.memory.words
sent_kept true t h read p new before after none some kept l = ap (λ (q : WalkPlace). q.memory.words) l.place ∙ kept
sent_kept false t h read p new before after none some kept l = silent _ before after none some l.1

sends_kept : (t : Transaction) (p : WalkPlace) (held : Option Held) (new : WalkPlace) (before after : Told)
    → before.wanted ≡ None → is_some after.wanted ≡ true → Sends Answers t p held before new after → new.memory.words ≡ p.memory.words
sends_kept t p None new before after none some l = silent _ before after none some l.1
sends_kept t p (Some h) new before after none some l =
    sent_kept _ t h (sending t h.queue_head p.memory) p new before after none some
    (bytes_kept (pages_of h.queue_head) (buffer_place h.queue_head) t.bytes p.memory) l

walk_kept : (row : WalkRow) (p new : WalkPlace) (before after : Told) → before.wanted ≡ None → is_some after.wanted ≡ true
    → Leads Answers row p before new after → new.memory.words ≡ p.memory.words
walk_kept (rows.Transact t) p new before after none some l = sends_kept t p p.walk.held new before after none some l
walk_kept rows.Fault p new before after none some l = silent _ before after none some l.1
walk_kept rows.HeadEnds p new before after none some l = silent _ before after none some l.1
walk_kept (rows.Fetch at q) p new before after none some l = silent _ before after none some l.1
walk_kept rows.Skip p new before after none some l = silent _ before after none some l.1
walk_kept rows.OutOfTime p new before after none some l = silent _ before after none some l.1
walk_kept (rows.Advance at t) p new before after none some l = silent _ before after none some l.1
walk_kept rows.WriteBack p new before after none some l = silent _ before after none some l.1

-- ---- the chain of the frame

asked_kept : (b : Bool) (ask : Ask) (out : List ℕ) (left_by : Reply → FramePlace) (there new : FramePlace) (words : List ℕ)
    (before after : Told) → before.wanted ≡ None → is_some after.wanted ≡ true → ((r : Reply) → (left_by r).memory.words ≡ words)
    → HasEffect Answers (sent b ask out left_by there) before new after → new.memory.words ≡ words
asked_kept true ask out left_by there new words before after none some kept l =
    ap (λ (q : FramePlace). q.memory.words) l.place ∙ kept l.reply
asked_kept false ask out left_by there new words before after none some kept l = silent _ before after none some l.1

queue_kept : (row : QueueRow) (h : HeldQueue) (p new : FramePlace) (before after : Told) → before.wanted ≡ None
    → is_some after.wanted ≡ true → HasEffect Answers (queue_effect row h p) before new after → new.memory.words ≡ p.memory.words
queue_kept queue_rows.Fault h p new before after none some l = silent _ before after none some l.1
queue_kept queue_rows.Skip h p new before after none some l = silent _ before after none some l.1
queue_kept (queue_rows.Advance a t) h p new before after none some l = silent _ before after none some l.1
queue_kept (queue_rows.Transact t) h p new before after none some l =
    asked_kept _ _ _ _ _ new p.memory.words before after none some
    (λ (r : Reply). bytes_kept (pages_of h.copy.queue_head) (buffer_place h.copy.queue_head) t.bytes p.memory) l
queue_kept queue_rows.Miss h p new before after none some l = silent _ before after none some l.1
queue_kept (queue_rows.WriteBack outcome) h p new before after none some l = silent _ before after none some l.1

itd_kept : (row : ItdRow) (h : HeldItd) (p new : FramePlace) (before after : Told) → before.wanted ≡ None → is_some after.wanted ≡ true
    → HasEffect Answers (itd_effect row h p) before new after → new.memory.words ≡ p.memory.words
itd_kept itd_rows.Skip h p new before after none some l = silent _ before after none some l.1
itd_kept (itd_rows.Transact t) h p new before after none some l =
    asked_kept _ _ _ _ _ new p.memory.words before after none some
    (λ (r : Reply). bytes_kept (itd_pages h.itd) (slot_place h.slot + h.moved) t.bytes p.memory) l
itd_kept (itd_rows.WriteBack ended) h p new before after none some l = silent _ before after none some l.1

sitd_kept : (row : SitdRow) (h : HeldSitd) (p new : FramePlace) (before after : Told) → before.wanted ≡ None → is_some after.wanted ≡ true
    → HasEffect Answers (sitd_effect row h p) before new after → new.memory.words ≡ p.memory.words
sitd_kept sitd_rows.Skip h p new before after none some l = silent _ before after none some l.1
sitd_kept (sitd_rows.Transact t) h p new before after none some l =
    asked_kept _ _ _ _ _ new p.memory.words before after none some
    (λ (r : Reply). bytes_kept (sitd_pages h.sitd) (sitd_place h.sitd) t.bytes p.memory) l
sitd_kept sitd_rows.Miss h p new before after none some l = silent _ before after none some l.1
sitd_kept (sitd_rows.WriteBack outcome) h p new before after none some l = silent _ before after none some l.1

frame_kept : (p : FramePlace) (hand : Option Hand) (new : FramePlace) (before after : Told) → before.wanted ≡ None
    → is_some after.wanted ≡ true → HasEffect Answers (effect_at p hand) before new after → new.memory.words ≡ p.memory.words
frame_kept p None new before after none some l = silent _ before after none some l.1
frame_kept p (Some (hands.Queue h)) new before after none some l =
    queue_kept (queue_row p h) h (reading (queue_read p h) p) new before after none some l
    ∙ settled_kept p.memory p.walk.index h.copy.queue_head h.copy.settled
frame_kept p (Some (hands.Itd h)) new before after none some l = itd_kept (itd_row p.walk.left h) h p new before after none some l
frame_kept p (Some (hands.Sitd h)) new before after none some l = sitd_kept (sitd_row p h) h p new before after none some l

-- ---- an event

row_kept : (row : ControllerRow) (old new : Content) (before after : Told) → before.wanted ≡ None → is_some after.wanted ≡ true
    → HasRow Begins Answers row old before new after → new.memory.words ≡ old.memory.words
row_kept events.Idle old new before after none some l = silent _ before after none some l.1
row_kept events.Begin old new before after none some l = silent _ before after none some l.asked.1
row_kept events.Frame old new before after none some l =
    frame_kept (frame_place old) old.control.frame.hand (frame_place new) before after none some l.walked
row_kept events.Enter old new before after none some l =
    walk_kept (event_row (walk_place (entered old))) (at_event (walk_place (entered old))) (walk_place new) before after none some l.walked
    ∙ place_kept (walk_place (entered old))
row_kept events.Go old new before after none some l =
    walk_kept (event_row (walk_place old)) (at_event (walk_place old)) (walk_place new) before after none some l.walked
    ∙ place_kept (walk_place old)
row_kept events.End old new before after none some l = silent _ before after none some l.1

pub held_up_keeps : (old new : Content) (before after : Told) → before.wanted ≡ None → is_some after.wanted ≡ true
    → IsEvent old before new after → new.memory.words ≡ old.memory.words
held_up_keeps old new before after none some e = row_kept (microframe_row old.registers old.control) old new before after none some e
