-- Each event of the ring's walk writes words of Lent blocks alone.
use Rattle.std.proofs.Common.{◌≡◌, ℕ, ◌%◌, Bool, true, false, if◌then◌else◌, List, Option, Some, None, ap, refl, sym, subst, ◌∙◌}
use Rattle.std.specs.Prelude.{IfSome, nat_le, ◌+◌}
use Rattle.usb_base.specs.declared.packets.Ask.{Ask}
use Rattle.usb_base.specs.declared.packets.Reply.{Reply}
use Rattle.word_mem.specs.Memory.{Mem, reaches, refused}
use Rattle.mem_bytes.specs.Bytes.{all_reached}
use Rattle.link_words.specs.declared.kinds.Link.{Link}
use Rattle.link_words.specs.declared.kinds.Link.TheVariants as links
use Rattle.link_words.specs.declared.kinds.QtdLink.{QtdLink}
use Rattle.link_words.specs.declared.kinds.QtdLink.TheVariants as qtd_links
use Rattle.qh_qtd.specs.declared.qtd.Qtd.{Qtd}
use Rattle.qh_qtd.specs.declared.queue_head.Qh.{Qh}
use Rattle.toggle_error.specs.declared.host.Outcome.{Outcome}
use Rattle.mem_queues.specs.Structures.{reaches_queue_head, token_written}
use Rattle.hc_copy.specs.declared.held.Held.{Held}
use Rattle.hc_copy.specs.declared.held.Transaction.{Transaction}
use Rattle.hc_copy.specs.declared.held.Visit.{Visit}
use Rattle.hc_copy.specs.declared.held.Visit.TheVariants as visits
use Rattle.hc_copy.specs.Visits.{visit_of}
use Rattle.hc_copy.specs.Overlay.{advanced, pages_of, buffer_place, moved}
use Rattle.hc_copy.specs.Buffer.{Reading, Writing, size_of, placed, bytes_written, sending}
use Rattle.hc_copy.specs.WriteBack.{moved_by, received, then_write, overlay_after, overlay_back, token_back, written_back}
use Rattle.async_walk.specs.declared.rows.WalkRow.{WalkRow}
use Rattle.async_walk.specs.declared.rows.WalkRow.TheVariants as rows
use Rattle.async_walk.specs.Naks.{may_work}
use Rattle.async_walk.specs.Rows.{WalkPlace, cursor_link, ring_read, take_read, visit_read, held_read, read_at, started, faulted, took, wrote, wrote_place, wrote_settled, writing, SentAt, Sends, Leads, at_event, event_row}
use Rattle.law_ring.specs.walk_writes.Writes.{WritesLent, IsPlaced}
use Rattle.law_ring.proofs.lemmas.walk_writes.Lent.{same_writes, both_write, refused_writes, qtd_read_writes, head_read_writes, overlay_writes, token_writes, stored_writes}

-- ---- what an event reads

pub unchanged : (m : Mem) → WritesLent m m
unchanged m = same_writes m m refl refl

ring_reads : (m : Mem) (l : Link) → WritesLent m (ring_read m l)
ring_reads m (links.Qh a) = head_read_writes m a
ring_reads m _ = unchanged m

take_reads : (m : Mem) (l : QtdLink) → WritesLent m (take_read m l)
take_reads m qtd_links.End = unchanged m
take_reads m (qtd_links.To a) = qtd_read_writes m a

visit_reads : (m : Mem) (v : Visit) → WritesLent m (visit_read m v)
visit_reads m (visits.Take l) = take_reads m l
visit_reads m _ = unchanged m

held_reads : (m : Mem) (q : Qh) (o : Option Outcome) → WritesLent m (held_read m q o)
held_reads m q None = visit_reads m (visit_of (may_work q) q)
held_reads m q (Some s) = unchanged m

event_reads : (p : WalkPlace) (o : Option Held) → WritesLent p.memory (read_at p o)
event_reads p None = ring_reads p.memory (cursor_link p.registers p.walk.cursor)
event_reads p (Some h) = held_reads p.memory h.queue_head h.settled

-- ---- what it writes

pub overlay_after_writes : (m : Mem) (a : ℕ) (q : Qh) → a % 32 ≡ 0 → WritesLent m (overlay_after m a q)
unfolding overlay_after
overlay_after_writes m a q aligned = overlay_writes m a q aligned

-- by whether the qTD goes on
abbrev token_writing : Bool → Qh → Mem → Writing
token_writing active q m = if active then record { memory = m; all = true } else record { memory = token_written m q.current q.token; all = reaches m q.current }

token_by : (q : Qh) (m : Mem) (active : Bool) → q.current % 32 ≡ 0 → WritesLent m (token_writing active q m).memory
token_by q m true aligned = unchanged m
token_by q m false aligned = token_writes m q.current q.token aligned

token_back_writes : (q : Qh) (m : Mem) → q.current % 32 ≡ 0 → WritesLent m (token_back q m).memory
token_back_writes q m aligned = token_by q m q.token.active aligned

then_by : (m : Mem) (w : Writing) (next : Mem → Writing) (b : Bool) → WritesLent m w.memory → WritesLent m (next w.memory).memory → WritesLent m (if b then next w.memory else w).memory
then_by m w next true one two = two
then_by m w next false one two = one

pub then_writes : (m : Mem) (w : Writing) (next : Mem → Writing) → WritesLent m w.memory → ((x : Mem) → WritesLent x (next x).memory) → WritesLent m (then_write w next).memory
then_writes m w next one two = then_by m w next w.all one (both_write m w.memory (next w.memory).memory one (two w.memory))

current_moved : (q : Qh) (n : ℕ) → (moved q n).current ≡ q.current
unfolding moved
current_moved q n = refl

pub back_writes : (a : ℕ) (q : Qh) (outcome : Outcome) (got : List ℕ) (m : Mem) → a % 32 ≡ 0 → q.current % 32 ≡ 0 → WritesLent m (written_back a q outcome got m).memory
unfolding written_back
back_writes a q outcome got m aligned current =
    let new : Qh = moved q (moved_by outcome) in
    let bytes : Writing = bytes_written (pages_of q) (buffer_place q) got m in
    then_writes m (then_write bytes (overlay_back a new)) (token_back new)
    (then_writes m bytes (overlay_back a new) (stored_writes m (pages_of q) (buffer_place q) (placed (pages_of q) (buffer_place q) got)) (λ x. overlay_after_writes x a new aligned))
    (λ x. token_back_writes new x (ap (λ (n : ℕ). n % 32) (current_moved q (moved_by outcome)) ∙ current))

-- ---- what stands after a row

abbrev Writes : WalkPlace → WalkPlace → Type 0
Writes p new = WritesLent p.memory new.memory

goes_to : (p new expected : WalkPlace) → new ≡ expected → Writes p expected → Writes p new
goes_to p new expected is writes = subst (Writes p) (sym is) writes

took_by : (p done stuck : WalkPlace) (b : Bool) → Writes p done → Writes p stuck → Writes p (if b then done else stuck)
took_by p done stuck true one two = one
took_by p done stuck false one two = two

took_writes : (a : ℕ) (t : Qtd) (p : WalkPlace) (o : Option Held) → IfSome o IsPlaced → Writes p (took a t p o)
took_writes a t p None is = unchanged p.memory
took_writes a t p (Some h) is =
    let writes = overlay_after_writes p.memory h.at (advanced h.queue_head a t) is.at in
    took_by p _ _ (reaches_queue_head p.memory h.at) writes writes

wrote_by : (p at : WalkPlace) (b : Bool) (q : Qh) (outcome : Outcome) → Writes p at → Writes p (wrote_place b q outcome at)
wrote_by p at true q outcome writes = writes
wrote_by p at false q outcome writes = writes

settled_writes : (p : WalkPlace) (h : Held) (o : Option Outcome) → h.settled ≡ o → IsPlaced h → Writes p (wrote_settled p h o)
settled_writes p h None is placed = unchanged p.memory
settled_writes p h (Some outcome) is placed =
    let w : Writing = writing h outcome p.walk.reply p.memory in
    wrote_by p (record p { memory = w.memory }) w.all h.queue_head outcome
    (back_writes h.at h.queue_head outcome (received h.queue_head outcome p.walk.reply) p.memory placed.at (placed.current outcome is))

wrote_writes : (p : WalkPlace) (o : Option Held) → IfSome o IsPlaced → Writes p (wrote p o)
wrote_writes p None is = unchanged p.memory
wrote_writes p (Some h) is = settled_writes p h h.settled refl is

pub reading_by : (m : Mem) (inside all : Bool) → WritesLent m (if inside then (if all then m else refused m) else m)
reading_by m true true = unchanged m
reading_by m true false = refused_writes m
reading_by m false all = unchanged m

pub sending_writes : (t : Transaction) (q : Qh) (m : Mem) → WritesLent m (sending t q m).memory
sending_writes t q m = reading_by m (nat_le (buffer_place q + t.bytes) (size_of (pages_of q))) (all_reached m (pages_of q) (buffer_place q) t.bytes)

module _ {W : Type 0} (transacts : W → Ask → List ℕ → Reply → W → Type 0) (p new : WalkPlace) (before after : W) where
  sent_writes : (b : Bool) (t : Transaction) (h : Held) (read : Reading) → WritesLent p.memory read.memory → SentAt transacts b t h read p before new after → Writes p new
  sent_writes true t h read writes sent = subst (Writes p) (sym sent.place) writes
  sent_writes false t h read writes sent = goes_to p new (faulted (record p { memory = read.memory })) sent.0 writes

  sends_write : (t : Transaction) (o : Option Held) → Sends transacts t p o before new after → Writes p new
  sends_write t None sends = goes_to p new p sends.0 (unchanged p.memory)
  sends_write t (Some h) sends = sent_writes (sending t h.queue_head p.memory).all t h (sending t h.queue_head p.memory) (sending_writes t h.queue_head p.memory) sends

  row_writes : (row : WalkRow) → IfSome p.walk.held IsPlaced → Leads transacts row p before new after → Writes p new
  row_writes (rows.Advance a t) is leads = goes_to p new (took a t p p.walk.held) leads.0 (took_writes a t p p.walk.held is)
  row_writes (rows.Transact t) is leads = sends_write t p.walk.held leads
  row_writes rows.WriteBack is leads = goes_to p new (wrote p p.walk.held) leads.0 (wrote_writes p p.walk.held is)
  row_writes _ is leads = goes_to p new _ leads.0 (unchanged p.memory)

-- ---- an event

pub each_event_writes_lent_words : {W : Type 0} (transacts : W → Ask → List ℕ → Reply → W → Type 0) (p : WalkPlace) (before : W) (new : WalkPlace) (after : W) → IfSome p.walk.held IsPlaced → Leads transacts (event_row p) (at_event p) before new after → WritesLent p.memory new.memory
each_event_writes_lent_words transacts p before new after is leads =
    both_write p.memory (at_event p).memory new.memory (event_reads (started p) p.walk.held) (row_writes transacts (at_event p) new before after (event_row p) is leads)
