-- Each event of the walk of a frame's chain writes words of Lent blocks alone.
use Rattle.std.proofs.Common.{◌≡◌, ℕ, ◌+◌, ◌*◌, ◌%◌, Bool, true, false, if◌then◌else◌, List, drop, Option, Some, None, ap, refl, sym, subst, ◌∙◌, arith}
use Rattle.std.specs.Prelude.{IfSome, nat_le}
use Rattle.std.proofs.lemmas.List.{length-take}
use Rattle.usb_base.specs.declared.packets.Ask.{Ask}
use Rattle.usb_base.specs.declared.packets.Reply.{Reply}
use Rattle.word_mem.specs.Memory.{Mem, reaches, refused, with_word}
use Rattle.word_mem.specs.Views.{with_words}
use Rattle.mem_bytes.specs.Bytes.{all_reached}
use Rattle.link_words.specs.declared.kinds.Link.{Link}
use Rattle.link_words.specs.declared.kinds.Link.TheVariants as links
use Rattle.link_words.specs.declared.kinds.QtdLink.{QtdLink}
use Rattle.link_words.specs.declared.kinds.QtdLink.TheVariants as qtd_links
use Rattle.qh_qtd.specs.declared.qtd.Qtd.{Qtd}
use Rattle.qh_qtd.specs.declared.queue_head.Qh.{Qh}
use Rattle.itd_sitd.specs.declared.slot.ItdSlot.{ItdSlot}
use Rattle.itd_sitd.specs.declared.sitd.Sitd.{Sitd}
use Rattle.itd_sitd.specs.Slot.{slot_word}
use Rattle.itd_sitd.specs.Sitd.{sitd_words}
use Rattle.toggle_error.specs.declared.host.Outcome.{Outcome}
use Rattle.mem_queues.specs.Structures.{reaches_queue_head}
use Rattle.mem_descriptors.specs.Descriptors.{reaches_itd, itd_was_read, sitd_was_read, slot_address, slot_written, state_words, state_written}
use Rattle.hc_copy.specs.Overlay.{advanced}
use Rattle.hc_copy.specs.Buffer.{Writing, size_of, placed, bytes_read, bytes_written, sending}
use Rattle.hc_copy.specs.WriteBack.{received}
use Rattle.hc_interrupt.specs.declared.turns.Turn.{Turn}
use Rattle.hc_interrupt.specs.declared.turns.Turn.TheVariants as turns
use Rattle.hc_interrupt.specs.Turns.{turn_of}
use Rattle.hc_interrupt.specs.Copies.{missed_queue}
use Rattle.hc_iso.specs.declared.held.HeldItd.{HeldItd}
use Rattle.hc_iso.specs.declared.held.HeldSitd.{HeldSitd}
use Rattle.hc_iso.specs.declared.held.IsoEnd.{IsoEnd}
use Rattle.hc_iso.specs.declared.held.SplitOutcome.{SplitOutcome}
use Rattle.hc_iso.specs.declared.held.SplitOutcome.TheVariants.{Failed}
use Rattle.hc_iso.specs.Sitd.{missed_copy, sitd_place, moved_sitd}
use Rattle.hc_iso.specs.WriteBack.{itd_pages, slot_place, itd_sending, done_slot, slot_back, itd_written, sitd_pages, sitd_sending, sitd_received, moved_by, state_back, sitd_written}
use Rattle.periodic_walk.specs.declared.queue.QueueRow.{QueueRow}
use Rattle.periodic_walk.specs.declared.queue.QueueRow.TheVariants as queue_rows
use Rattle.periodic_walk.specs.declared.itd.ItdRow.{ItdRow}
use Rattle.periodic_walk.specs.declared.itd.ItdRow.TheVariants as itd_rows
use Rattle.periodic_walk.specs.declared.sitd.SitdRow.{SitdRow}
use Rattle.periodic_walk.specs.declared.sitd.SitdRow.TheVariants as sitd_rows
use Rattle.periodic_walk.specs.declared.state.HeldQueue.{HeldQueue}
use Rattle.periodic_walk.specs.declared.state.Hand.{Hand}
use Rattle.periodic_walk.specs.declared.state.Hand.TheVariants as hands
use Rattle.periodic_walk.specs.Place.{FramePlace, reading, Effect, HasEffect, sent}
use Rattle.periodic_walk.specs.Place.Effect.{Leaves, Asks}
use Rattle.periodic_walk.specs.Chain.{chain_read}
use Rattle.periodic_walk.specs.Queue.{take_read, turn_read, settled_read, queue_read, queue_row, took, missed, miss_outcome, wrote_at, wrote, writing, queue_effect}
use Rattle.periodic_walk.specs.Itd.{itd_row, itd_effect, wrote_at as itd_wrote_at}
use Rattle.periodic_walk.specs.Sitd.{sitd_row, sitd_effect, wrote_at as sitd_wrote_at, wrote as sitd_wrote, writing as sitd_writing}
use Rattle.periodic_walk.specs.Rows.{effect_at, effect_of, Leads}
use Rattle.law_ring.specs.walk_writes.Writes.{WritesLent}
use Rattle.law_controller.specs.lent_writes.Hands.{IsCopyPlaced, IsHandPlaced}
use Rattle.law_ring.proofs.lemmas.walk_writes.Lent.{both_write, refused_writes, either_writes, reach_in, word_writes, words_write, qtd_read_writes, head_read_writes, stored_writes}
use Rattle.law_ring.proofs.lemmas.walk_writes.Walking.{unchanged, overlay_after_writes, then_writes, back_writes, reading_by, sending_writes}

-- ---- what an effect leaves

abbrev EffectWrites : Mem → Effect → Type 0
EffectWrites m (Leaves p) = WritesLent m p.memory
EffectWrites m (Asks ask out left_by) = (reply : Reply) → WritesLent m (left_by reply).memory

effect_writes : {W : Type 0} (transacts : W → Ask → List ℕ → Reply → W → Type 0) (m : Mem) (e : Effect) (before : W) (new : FramePlace) (after : W) → EffectWrites m e → HasEffect transacts e before new after → WritesLent m new.memory
effect_writes transacts m (Leaves p) before new after writes has = subst (λ (x : FramePlace). WritesLent m x.memory) (sym has.0) writes
effect_writes transacts m (Asks ask out left_by) before new after writes has = subst (λ (x : FramePlace). WritesLent m x.memory) (sym has.place) (writes has.reply)

sent_writes : (m : Mem) (b : Bool) (ask : Ask) (out : List ℕ) (left_by : Reply → FramePlace) (p : FramePlace) → ((reply : Reply) → WritesLent m (left_by reply).memory) → WritesLent m p.memory → EffectWrites m (sent b ask out left_by p)
sent_writes m true ask out left_by p asked stuck = asked
sent_writes m false ask out left_by p asked stuck = stuck

-- ---- what is read

itd_read_writes : (m : Mem) (a : ℕ) → WritesLent m (itd_was_read m a)
itd_read_writes m a = either_writes m m (refused m) (reaches_itd m a) (unchanged m) (refused_writes m)

sitd_read_writes : (m : Mem) (a : ℕ) → WritesLent m (sitd_was_read m a)
sitd_read_writes m a = either_writes m m (refused m) (reaches m a) (unchanged m) (refused_writes m)

chain_reads : (m : Mem) (l : Link) → WritesLent m (chain_read m l)
chain_reads m (links.Itd a) = itd_read_writes m a
chain_reads m (links.Qh a) = head_read_writes m a
chain_reads m (links.Sitd a) = sitd_read_writes m a
chain_reads m _ = unchanged m

take_reads : (m : Mem) (l : QtdLink) → WritesLent m (take_read m l)
take_reads m qtd_links.End = unchanged m
take_reads m (qtd_links.To a) = qtd_read_writes m a

turn_reads : (m : Mem) (t : Turn) → WritesLent m (turn_read m t)
turn_reads m (turns.Take l) = take_reads m l
turn_reads m _ = unchanged m

settled_reads : (m : Mem) (left f : ℕ) (q : Qh) (o : Option Outcome) → WritesLent m (settled_read m f q o)
settled_reads m left f q None = turn_reads m (turn_of f q)
settled_reads m left f q (Some outcome) = unchanged m

bytes_reads : (pages : List ℕ) (from n : ℕ) (m : Mem) → WritesLent m (bytes_read pages from n m).memory
bytes_reads pages from n m = reading_by m (nat_le (from + n) (size_of pages)) (all_reached m pages from n)

-- ---- the queue head in hand

missed_current : (q : Qh) → (missed_queue q).current ≡ q.current
unfolding missed_queue
missed_current q = refl

took_by : (m : Mem) (done stuck : FramePlace) (b : Bool) → WritesLent m done.memory → WritesLent m stuck.memory → WritesLent m (if b then done else stuck).memory
took_by m done stuck true one two = one
took_by m done stuck false one two = two

took_writes : (h : HeldQueue) (a : ℕ) (t : Qtd) (p : FramePlace) → h.copy.at % 32 ≡ 0 → WritesLent p.memory (took h a t p).memory
took_writes h a t p aligned =
    let writes = overlay_after_writes p.memory h.copy.at (advanced h.copy.queue_head a t) aligned in
    took_by p.memory _ _ (reaches_queue_head p.memory h.copy.at) writes writes

wrote_by : (m : Mem) (b : Bool) (h : HeldQueue) (outcome : Outcome) (p : FramePlace) → WritesLent m p.memory → WritesLent m (wrote_at b h outcome p).memory
wrote_by m true h outcome p writes = writes
wrote_by m false h outcome p writes = writes

wrote_writes : (h : HeldQueue) (outcome : Outcome) (p : FramePlace) → h.copy.at % 32 ≡ 0 → h.copy.queue_head.current % 32 ≡ 0 → WritesLent p.memory (wrote h outcome p).memory
wrote_writes h outcome p aligned current =
    let w : Writing = writing h.copy outcome p.walk.reply p.memory in
    wrote_by p.memory w.all h outcome (record p { memory = w.memory })
    (back_writes h.copy.at h.copy.queue_head outcome (received h.copy.queue_head outcome p.walk.reply) p.memory aligned current)

queue_writes : (row : QueueRow) (h : HeldQueue) (p : FramePlace) → IsCopyPlaced h.copy → EffectWrites p.memory (queue_effect row h p)
queue_writes (queue_rows.Advance a t) h p is = took_writes h a t p is.at
queue_writes (queue_rows.Transact t) h p is =
    let writes = sending_writes t h.copy.queue_head p.memory in
    sent_writes p.memory (sending t h.copy.queue_head p.memory).all _ _ _ _ (λ reply. writes) writes
queue_writes queue_rows.Miss h p is = wrote_writes (missed h) miss_outcome p is.at (ap (λ (n : ℕ). n % 32) (missed_current h.copy.queue_head) ∙ is.current)
queue_writes (queue_rows.WriteBack outcome) h p is = wrote_writes h outcome p is.at is.current
queue_writes _ h p is = unchanged p.memory

-- ---- the iTD in hand

slot_by : (m : Mem) (at v : ℕ) (b : Bool) → reaches m at ≡ b → WritesLent m (if b then with_word m at v else refused m)
slot_by m at v true is = word_writes m at v is
slot_by m at v false is = refused_writes m

slot_writes : (m : Mem) (a k : ℕ) (s : ItdSlot) → WritesLent m (slot_written m a k s)
slot_writes m a k s = slot_by m (slot_address a k) (slot_word s) (reaches m (slot_address a k)) refl

itd_back_writes : (h : HeldItd) (got : List ℕ) (m : Mem) → WritesLent m (itd_written h got m).memory
unfolding itd_written
itd_back_writes h got m =
    then_writes m (bytes_written (itd_pages h.itd) (slot_place h.slot) got m) (slot_back h)
    (stored_writes m (itd_pages h.itd) (slot_place h.slot) (placed (itd_pages h.itd) (slot_place h.slot) got)) (λ x. slot_writes x h.at h.number (done_slot h))

itd_wrote_by : (m : Mem) (b : Bool) (h : HeldItd) (ended : IsoEnd) (p : FramePlace) → WritesLent m p.memory → WritesLent m (itd_wrote_at b h ended p).memory
itd_wrote_by m true h ended p writes = writes
itd_wrote_by m false h ended p writes = writes

itd_writes : (row : ItdRow) (h : HeldItd) (p : FramePlace) → EffectWrites p.memory (itd_effect row h p)
itd_writes itd_rows.Skip h p = unchanged p.memory
itd_writes (itd_rows.Transact t) h p =
    let writes = bytes_reads (itd_pages h.itd) (slot_place h.slot + h.moved) t.bytes p.memory in
    sent_writes p.memory (itd_sending t h p.memory).all _ _ _ _ (λ reply. writes) writes
itd_writes (itd_rows.WriteBack ended) h p =
    let w : Writing = itd_written h p.walk.got p.memory in
    itd_wrote_by p.memory w.all h ended (record p { memory = w.memory }) (itd_back_writes h p.walk.got p.memory)

-- ---- the siTD in hand

state_by : (m : Mem) (a : ℕ) (v : Sitd) (b : Bool) → a % 32 ≡ 0 → reaches m a ≡ b → WritesLent m (if b then with_words m (a + 12) (state_words v) else refused m)
state_by m a v true aligned is =
    let three = length-take 3 (drop 3 (sitd_words v)) in
    words_write m (a + 12) (state_words v) (λ i below. reach_in m a (a + 12 + 4 * i) (omega (arith, aligned, below, three)) is)
state_by m a v false aligned is = refused_writes m

state_writes : (m : Mem) (a : ℕ) (v : Sitd) → a % 32 ≡ 0 → WritesLent m (state_written m a (state_words v))
state_writes m a v aligned = state_by m a v (reaches m a) aligned refl

sitd_back_writes : (a : ℕ) (v : Sitd) (outcome : SplitOutcome) (got : List ℕ) (m : Mem) → a % 32 ≡ 0 → WritesLent m (sitd_written a v outcome got m).memory
unfolding sitd_written
sitd_back_writes a v outcome got m aligned =
    then_writes m (bytes_written (sitd_pages v) (sitd_place v) got m) (state_back a (moved_sitd (moved_by outcome) v))
    (stored_writes m (sitd_pages v) (sitd_place v) (placed (sitd_pages v) (sitd_place v) got)) (λ x. state_writes x a (moved_sitd (moved_by outcome) v) aligned)

sitd_wrote_by : (m : Mem) (b : Bool) (h : HeldSitd) (outcome : SplitOutcome) (p : FramePlace) → WritesLent m p.memory → WritesLent m (sitd_wrote_at b h outcome p).memory
sitd_wrote_by m true h outcome p writes = writes
sitd_wrote_by m false h outcome p writes = writes

sitd_wrote_writes : (h : HeldSitd) (outcome : SplitOutcome) (p : FramePlace) → h.at % 32 ≡ 0 → WritesLent p.memory (sitd_wrote h outcome p).memory
sitd_wrote_writes h outcome p aligned =
    let w : Writing = sitd_writing h outcome p.walk.reply p.memory in
    sitd_wrote_by p.memory w.all h outcome (record p { memory = w.memory }) (sitd_back_writes h.at h.sitd outcome (sitd_received h.sitd.dir_in outcome p.walk.reply) p.memory aligned)

sitd_writes : (row : SitdRow) (h : HeldSitd) (p : FramePlace) → h.at % 32 ≡ 0 → EffectWrites p.memory (sitd_effect row h p)
sitd_writes sitd_rows.Skip h p aligned = unchanged p.memory
sitd_writes (sitd_rows.Transact t) h p aligned =
    let writes = bytes_reads (sitd_pages h.sitd) (sitd_place h.sitd) t.bytes p.memory in
    sent_writes p.memory (sitd_sending t h.sitd p.memory).all _ _ _ _ (λ reply. writes) writes
sitd_writes sitd_rows.Miss h p aligned = sitd_wrote_writes (missed_copy h) Failed p aligned
sitd_writes (sitd_rows.WriteBack outcome) h p aligned = sitd_wrote_writes h outcome p aligned

-- ---- an event

after_reading : (m : Mem) (read : Mem) (e : Effect) → WritesLent m read → EffectWrites read e → EffectWrites m e
after_reading m read (Leaves p) one two = both_write m read p.memory one two
after_reading m read (Asks ask out left_by) one two = λ reply. both_write m read (left_by reply).memory one (two reply)

hand_writes : (p : FramePlace) (o : Option Hand) → IfSome o IsHandPlaced → EffectWrites p.memory (effect_at p o)
hand_writes p None is = chain_reads p.memory p.walk.cursor
hand_writes p (Some (hands.Queue h)) is =
    after_reading p.memory (queue_read p h) (queue_effect (queue_row p h) h (reading (queue_read p h) p))
    (settled_reads p.memory p.walk.left p.walk.index h.copy.queue_head h.copy.settled) (queue_writes (queue_row p h) h (reading (queue_read p h) p) is)
hand_writes p (Some (hands.Itd h)) is = itd_writes (itd_row p.walk.left h) h p
hand_writes p (Some (hands.Sitd h)) is = sitd_writes (sitd_row p h) h p is

pub frame_writes : {W : Type 0} (transacts : W → Ask → List ℕ → Reply → W → Type 0) (p : FramePlace) (before : W) (new : FramePlace) (after : W) → IfSome p.walk.hand IsHandPlaced → Leads transacts p before new after → WritesLent p.memory new.memory
frame_writes transacts p before new after is leads = effect_writes transacts p.memory (effect_of p) before new after (hand_writes p p.walk.hand is) leads
