-- An event of the walk of a frame's chain leaves what a driver alone writes of the registers, and FRINDEX.
use Rattle.std.proofs.Common.{◌≡◌, ℕ, Bool, true, false, List, Option, None, Some, if◌then◌else◌, refl, ap, ◌∙◌}
use Rattle.usb_base.specs.declared.packets.Ask.{Ask}
use Rattle.usb_base.specs.declared.packets.Reply.{Reply}
use Rattle.word_mem.specs.Memory.{Mem}
use Rattle.op_registers.specs.RegisterFile.{RegisterFile}
use Rattle.qh_qtd.specs.declared.queue_head.Qh.{Qh}
use Rattle.toggle_error.specs.declared.host.Outcome.{Outcome}
use Rattle.mem_queues.specs.Structures.{reaches_queue_head}
use Rattle.hc_copy.specs.Buffer.{Reading, Writing, sending}
use Rattle.hc_copy.specs.Overlay.{advanced}
use Rattle.hc_copy.specs.Transacting.{call_in}
use Rattle.hc_copy.specs.WriteBack.{raised, overlay_after}
use Rattle.hc_interrupt.specs.Turns.{is_last_of}
use Rattle.hc_iso.specs.declared.held.HeldItd.{HeldItd}
use Rattle.hc_iso.specs.declared.held.HeldSitd.{HeldSitd}
use Rattle.hc_iso.specs.declared.held.IsoEnd.{IsoEnd}
use Rattle.hc_iso.specs.declared.held.SplitOutcome.{SplitOutcome}
use Rattle.hc_iso.specs.declared.held.SplitOutcome.TheVariants.{Failed}
use Rattle.hc_iso.specs.Sitd.{missed_copy}
use Rattle.hc_iso.specs.WriteBack.{iso_raised, itd_sending, itd_written, sitd_sending}
use Rattle.periodic_walk.specs.declared.chain.ChainRow.{ChainRow}
use Rattle.periodic_walk.specs.declared.chain.ChainRow.TheVariants as chains
use Rattle.periodic_walk.specs.declared.queue.QueueRow.{QueueRow}
use Rattle.periodic_walk.specs.declared.queue.QueueRow.TheVariants as queues
use Rattle.periodic_walk.specs.declared.itd.ItdRow.{ItdRow}
use Rattle.periodic_walk.specs.declared.itd.ItdRow.TheVariants as itds
use Rattle.periodic_walk.specs.declared.sitd.SitdRow.{SitdRow}
use Rattle.periodic_walk.specs.declared.sitd.SitdRow.TheVariants as sitds
use Rattle.periodic_walk.specs.declared.state.Hand.{Hand}
use Rattle.periodic_walk.specs.declared.state.Hand.TheVariants as hands
use Rattle.periodic_walk.specs.declared.state.HeldQueue.{HeldQueue}
use Rattle.periodic_walk.specs.Walk.{Walk}
use Rattle.periodic_walk.specs.Place.{FramePlace, reading, holding, faulted, Effect, sent, HasEffect}
use Rattle.periodic_walk.specs.Place.Effect.{Leaves, Asks}
use Rattle.periodic_walk.specs.Chain.{chain_row, chain_read, chain_after}
use Rattle.periodic_walk.specs.Queue.{queue_row, queue_read, with_queue, writing, wrote_at, wrote, missed, miss_outcome, queue_left_by, queue_effect}
use Rattle.periodic_walk.specs.Itd.{itd_row, wrote_at as itd_wrote_at, itd_left_by, itd_effect}
use Rattle.periodic_walk.specs.Sitd.{sitd_row, writing as sitd_writing, wrote_at as sitd_wrote_at, wrote as sitd_wrote, sitd_left_by, sitd_effect}
use Rattle.periodic_walk.specs.Rows.{effect_at, effect_of}
use Rattle.hc_microframe.specs.Answers.{Told, Answers}
use Rattle.hc_microframe.proofs.RingShapes.{shape}

-- what an effect leaves has this shape
abbrev Leaving : Effect → RegisterFile → Type 0
Leaving (Leaves p) q = shape p.registers ≡ q
Leaving (Asks ask out left_by) q = (reply : Reply) → shape (left_by reply).registers ≡ q

sent_shape : (b : Bool) (ask : Ask) (out : List ℕ) (left_by : Reply → FramePlace) (p : FramePlace) (q : RegisterFile)
    → ((reply : Reply) → shape (left_by reply).registers ≡ q) → shape p.registers ≡ q → Leaving (sent b ask out left_by p) q
sent_shape true ask out left_by p q asks stays = asks
sent_shape false ask out left_by p q asks stays = stays

-- ---- the chain

chain_shape : (row : ChainRow) (p : FramePlace) → shape (chain_after row p).registers ≡ shape p.registers
chain_shape chains.Fault p = refl
chain_shape chains.Ends p = refl
chain_shape (chains.Queue a q) p = refl
chain_shape (chains.Itd a v) p = refl
chain_shape (chains.Sitd a v) p = refl

-- ---- a queue head

took_at : (b : Bool) (p : FramePlace) (m : Mem) (w : Walk)
    → shape (if b then record p { memory = m; walk = w } else faulted (record p { memory = m })).registers ≡ shape p.registers
took_at true p m w = refl
took_at false p m w = refl

queue_wrote_at : (b : Bool) (h : HeldQueue) (outcome : Outcome) (p : FramePlace)
    → shape (wrote_at b h outcome p).registers ≡ shape p.registers
unfolding raised
queue_wrote_at true h outcome p = refl
queue_wrote_at false h outcome p = refl

queue_wrote : (h : HeldQueue) (outcome : Outcome) (p : FramePlace) → shape (wrote h outcome p).registers ≡ shape p.registers
queue_wrote h outcome p =
    let w : Writing = writing h.copy outcome p.walk.reply p.memory in
    queue_wrote_at w.all h outcome (record p { memory = w.memory })

queue_shape : (row : QueueRow) (h : HeldQueue) (p : FramePlace) → Leaving (queue_effect row h p) (shape p.registers)
queue_shape queues.Fault h p = refl
queue_shape queues.Skip h p = refl
queue_shape (queues.Advance a t) h p =
    let new : Qh = advanced h.copy.queue_head a t in
    took_at (reaches_queue_head p.memory h.copy.at) p (overlay_after p.memory h.copy.at new)
    (holding (hands.Queue (with_queue h new)) p.walk)
queue_shape (queues.Transact t) h p =
    let read : Reading = sending t h.copy.queue_head p.memory in
    let last : Bool = is_last_of p.walk.index h.copy.queue_head in
    let there : FramePlace = record p { memory = read.memory } in
    sent_shape read.all (call_in t read.bytes last).ask (call_in t read.bytes last).out (queue_left_by t read.bytes h there) there
    (shape p.registers) (λ reply. refl) refl
queue_shape queues.Miss h p = queue_wrote (missed h) miss_outcome p
queue_shape (queues.WriteBack outcome) h p = queue_wrote h outcome p

-- ---- an iTD

itd_wrote_shape : (b : Bool) (h : HeldItd) (ended : IsoEnd) (p : FramePlace)
    → shape (itd_wrote_at b h ended p).registers ≡ shape p.registers
unfolding iso_raised
itd_wrote_shape true h ended p = refl
itd_wrote_shape false h ended p = refl

itd_shape : (row : ItdRow) (h : HeldItd) (p : FramePlace) → Leaving (itd_effect row h p) (shape p.registers)
itd_shape itds.Skip h p = refl
itd_shape (itds.Transact t) h p =
    let read : Reading = itd_sending t h p.memory in
    let there : FramePlace = record p { memory = read.memory } in
    sent_shape read.all t.ask read.bytes (itd_left_by t h there) there (shape p.registers) (λ reply. refl) refl
itd_shape (itds.WriteBack ended) h p =
    let w : Writing = itd_written h p.walk.got p.memory in
    itd_wrote_shape w.all h ended (record p { memory = w.memory })

-- ---- a siTD

sitd_wrote_shape : (b : Bool) (h : HeldSitd) (outcome : SplitOutcome) (p : FramePlace)
    → shape (sitd_wrote_at b h outcome p).registers ≡ shape p.registers
unfolding iso_raised
sitd_wrote_shape true h outcome p = refl
sitd_wrote_shape false h outcome p = refl

sitd_wrote_is : (h : HeldSitd) (outcome : SplitOutcome) (p : FramePlace) → shape (sitd_wrote h outcome p).registers ≡ shape p.registers
sitd_wrote_is h outcome p =
    let w : Writing = sitd_writing h outcome p.walk.reply p.memory in
    sitd_wrote_shape w.all h outcome (record p { memory = w.memory })

sitd_shape : (row : SitdRow) (h : HeldSitd) (p : FramePlace) → Leaving (sitd_effect row h p) (shape p.registers)
sitd_shape sitds.Skip h p = refl
sitd_shape (sitds.Transact t) h p =
    let read : Reading = sitd_sending t h.sitd p.memory in
    let there : FramePlace = record p { memory = read.memory } in
    sent_shape read.all t.ask read.bytes (sitd_left_by t h there) there (shape p.registers) (λ reply. refl) refl
sitd_shape sitds.Miss h p = sitd_wrote_is (missed_copy h) Failed p
sitd_shape (sitds.WriteBack outcome) h p = sitd_wrote_is h outcome p

-- ---- an event

hand_shape : (p : FramePlace) (hand : Option Hand) → Leaving (effect_at p hand) (shape p.registers)
hand_shape p None = chain_shape (chain_row p.memory p.walk.cursor) (reading (chain_read p.memory p.walk.cursor) p)
hand_shape p (Some (hands.Queue h)) = queue_shape (queue_row p h) h (reading (queue_read p h) p)
hand_shape p (Some (hands.Itd h)) = itd_shape (itd_row p.walk.left h) h p
hand_shape p (Some (hands.Sitd h)) = sitd_shape (sitd_row p h) h p

abbrev at : FramePlace → RegisterFile
at p = shape p.registers

left_shape : (effect : Effect) (q : RegisterFile) (before : Told) (new : FramePlace) (after : Told) → Leaving effect q
    → HasEffect Answers effect before new after → shape new.registers ≡ q
left_shape (Leaves p) q before new after leaves l = ap at l.0 ∙ leaves
left_shape (Asks ask out left_by) q before new after leaves l = ap at l.place ∙ leaves l.reply

pub frame_shape : (p : FramePlace) (before : Told) (new : FramePlace) (after : Told) → HasEffect Answers (effect_of p) before new after
    → shape new.registers ≡ shape p.registers
frame_shape p before new after l = left_shape (effect_of p) (shape p.registers) before new after (hand_shape p p.walk.hand) l
