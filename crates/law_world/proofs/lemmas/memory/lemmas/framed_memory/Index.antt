-- FRINDEX stays where the walk of the ring has an event, and where that of the frames has one (EHCI 1.0, 2.3.4): a microframe that begins steps it alone.
use Rattle.std.proofs.Common.{◌≡◌, ℕ, Bool, true, false, if◌then◌else◌, List, Option, Some, None, ap, refl, ◌∙◌}
use Rattle.usb_base.specs.declared.packets.Ask.{Ask}
use Rattle.usb_base.specs.declared.packets.Reply.{Reply}
use Rattle.op_registers.specs.RegisterFile.{RegisterFile}
use Rattle.op_registers.specs.Events.{after_advance, after_reclamation}
use Rattle.qh_qtd.specs.declared.qtd.Qtd.{Qtd}
use Rattle.qh_qtd.specs.declared.queue_head.Qh.{Qh}
use Rattle.toggle_error.specs.declared.host.Outcome.{Outcome}
use Rattle.mem_queues.specs.Structures.{reaches_queue_head}
use Rattle.hc_copy.specs.declared.held.Held.{Held}
use Rattle.hc_copy.specs.declared.held.Transaction.{Transaction}
use Rattle.hc_copy.specs.Buffer.{Reading, sending}
use Rattle.hc_copy.specs.WriteBack.{raised}
use Rattle.hc_iso.specs.declared.held.HeldItd.{HeldItd}
use Rattle.hc_iso.specs.declared.held.HeldSitd.{HeldSitd}
use Rattle.hc_iso.specs.declared.held.IsoEnd.{IsoEnd}
use Rattle.hc_iso.specs.declared.held.SplitOutcome.{SplitOutcome}
use Rattle.hc_iso.specs.declared.held.SplitOutcome.TheVariants.{Failed}
use Rattle.hc_iso.specs.Sitd.{missed_copy}
use Rattle.hc_iso.specs.WriteBack.{iso_raised, itd_sending, itd_written, sitd_sending}
use Rattle.async_walk.specs.declared.rows.WalkRow.{WalkRow}
use Rattle.async_walk.specs.declared.rows.WalkRow.TheVariants as walks
use Rattle.async_walk.specs.Rows.{WalkPlace, started_registers, fetched_registers, took, writing, wrote_place, wrote_settled, wrote, SentAt, Sends, Leads, event_row, at_event}
use Rattle.periodic_walk.specs.declared.state.Hand.{Hand as FrameHeld}
use Rattle.periodic_walk.specs.declared.state.Hand.TheVariants as hands
use Rattle.periodic_walk.specs.declared.state.HeldQueue.{HeldQueue}
use Rattle.periodic_walk.specs.declared.chain.ChainRow.{ChainRow}
use Rattle.periodic_walk.specs.declared.chain.ChainRow.TheVariants as chains
use Rattle.periodic_walk.specs.declared.queue.QueueRow.{QueueRow}
use Rattle.periodic_walk.specs.declared.queue.QueueRow.TheVariants as queues
use Rattle.periodic_walk.specs.declared.itd.ItdRow.{ItdRow}
use Rattle.periodic_walk.specs.declared.itd.ItdRow.TheVariants as itds
use Rattle.periodic_walk.specs.declared.sitd.SitdRow.{SitdRow}
use Rattle.periodic_walk.specs.declared.sitd.SitdRow.TheVariants as sitds
use Rattle.periodic_walk.specs.Place.{FramePlace, reading, Effect, sent, HasEffect}
use Rattle.periodic_walk.specs.Place.Effect.{Leaves, Asks}
use Rattle.periodic_walk.specs.Chain.{chain_row, chain_registers}
use Rattle.periodic_walk.specs.Queue.{queue_row, queue_read, queue_effect, missed, miss_outcome}
use Rattle.periodic_walk.specs.Queue as of_queue
use Rattle.periodic_walk.specs.Itd.{itd_row, itd_effect}
use Rattle.periodic_walk.specs.Itd as of_itd
use Rattle.periodic_walk.specs.Sitd.{sitd_row, sitd_effect}
use Rattle.periodic_walk.specs.Sitd as of_sitd
use Rattle.periodic_walk.specs.Rows.{effect_at, effect_of, Leads as FrameLeads}

-- ---- the walk of the ring

abbrev Same : WalkPlace → WalkPlace → Type 0
Same p new = new.registers.frame_index ≡ p.registers.frame_index

by_reach : (b : Bool) (p x y : WalkPlace) → Same p x → Same p y → Same p (if b then x else y)
by_reach true p x y one other = one
by_reach false p x y one other = other

started_same : (b : Bool) (r : RegisterFile) → (started_registers b r).frame_index ≡ r.frame_index
started_same true r = refl
started_same false r = refl

head_same : (r : RegisterFile) (b : Bool) → (if b then after_advance r else r).frame_index ≡ r.frame_index
head_same r true = refl
head_same r false = refl

fetched_same : (h : Bool) (r : RegisterFile) → (fetched_registers h r).frame_index ≡ r.frame_index
fetched_same false r = refl
fetched_same true r = head_same (after_reclamation r false) r.doorbell

took_same : (a : ℕ) (t : Qtd) (p : WalkPlace) (o : Option Held) → Same p (took a t p o)
took_same a t p None = refl
took_same a t p (Some h) = by_reach (reaches_queue_head p.memory h.at) p _ _ refl refl

placed_same : (b : Bool) (q : Qh) (o : Outcome) (p : WalkPlace) → Same p (wrote_place b q o p)
unfolding raised
placed_same true q o p = refl
placed_same false q o p = refl

settled_same : (p : WalkPlace) (h : Held) (o : Option Outcome) → Same p (wrote_settled p h o)
settled_same p h None = refl
settled_same p h (Some o) = placed_same (writing h o p.walk.reply p.memory).all h.queue_head o (record p { memory = (writing h o p.walk.reply p.memory).memory })

wrote_same : (p : WalkPlace) (o : Option Held) → Same p (wrote p o)
wrote_same p None = refl
wrote_same p (Some h) = settled_same p h h.settled

sent_same : {W : Type 0} (transacts : W → Ask → List ℕ → Reply → W → Type 0) (b : Bool) (t : Transaction) (h : Held) (read : Reading) (p : WalkPlace) (before : W) (new : WalkPlace) (after : W) → SentAt transacts b t h read p before new after → Same p new
sent_same transacts true t h read p before new after made = ap (λ (q : WalkPlace). q.registers.frame_index) made.place
sent_same transacts false t h read p before new after stays = ap (λ (q : WalkPlace). q.registers.frame_index) stays.0

sends_same : {W : Type 0} (transacts : W → Ask → List ℕ → Reply → W → Type 0) (t : Transaction) (p : WalkPlace) (o : Option Held) (before : W) (new : WalkPlace) (after : W) → Sends transacts t p o before new after → Same p new
sends_same transacts t p None before new after stays = ap (λ (q : WalkPlace). q.registers.frame_index) stays.0
sends_same transacts t p (Some h) before new after sends =
    sent_same transacts (sending t h.queue_head p.memory).all t h (sending t h.queue_head p.memory) p before new after sends

row_same : {W : Type 0} (transacts : W → Ask → List ℕ → Reply → W → Type 0) (row : WalkRow) (p : WalkPlace) (before : W) (new : WalkPlace) (after : W) → Leads transacts row p before new after → Same p new
row_same transacts (walks.Transact t) p before new after lead = sends_same transacts t p p.walk.held before new after lead
row_same transacts walks.HeadEnds p before new after lead = ap (λ (q : WalkPlace). q.registers.frame_index) lead.0 ∙ head_same p.registers p.registers.doorbell
row_same transacts (walks.Fetch a q) p before new after lead = ap (λ (q : WalkPlace). q.registers.frame_index) lead.0 ∙ fetched_same q.head p.registers
row_same transacts (walks.Advance a t) p before new after lead = ap (λ (q : WalkPlace). q.registers.frame_index) lead.0 ∙ took_same a t p p.walk.held
row_same transacts walks.WriteBack p before new after lead = ap (λ (q : WalkPlace). q.registers.frame_index) lead.0 ∙ wrote_same p p.walk.held
row_same transacts _ p before new after lead = ap (λ (q : WalkPlace). q.registers.frame_index) lead.0

pub ring_index : {W : Type 0} (transacts : W → Ask → List ℕ → Reply → W → Type 0) (p : WalkPlace) (before : W) (new : WalkPlace) (after : W) → Leads transacts (event_row p) (at_event p) before new after
    → new.registers.frame_index ≡ p.registers.frame_index
ring_index transacts p before new after lead = row_same transacts (event_row p) (at_event p) before new after lead ∙ started_same p.walk.first p.registers

-- ---- the walk of the frames

abbrev Keeps : FramePlace → FramePlace → Type 0
Keeps p new = new.registers.frame_index ≡ p.registers.frame_index

-- what it leaves, or what each reply does
abbrev Leaving : FramePlace → Effect → Type 0
Leaving p (Leaves q) = Keeps p q
Leaving p (Asks ask out left_by) = (reply : Reply) → Keeps p (left_by reply)

sent_leaving : (b : Bool) (p : FramePlace) (ask : Ask) (out : List ℕ) (left_by : Reply → FramePlace) (there : FramePlace) → ((reply : Reply) → Keeps p (left_by reply)) → Keeps p there
    → Leaving p (sent b ask out left_by there)
sent_leaving true p ask out left_by there each same = each
sent_leaving false p ask out left_by there each same = same

chain_keeps : (row : ChainRow) (r : RegisterFile) → (chain_registers row r).frame_index ≡ r.frame_index
chain_keeps chains.Fault r = refl
chain_keeps _ r = refl

either_keeps : (b : Bool) (p x y : FramePlace) → Keeps p x → Keeps p y → Keeps p (if b then x else y)
either_keeps true p x y one other = one
either_keeps false p x y one other = other

queue_wrote : (b : Bool) (h : HeldQueue) (o : Outcome) (p : FramePlace) → Keeps p (of_queue.wrote_at b h o p)
unfolding raised
queue_wrote true h o p = refl
queue_wrote false h o p = refl

queue_keeps : (row : QueueRow) (h : HeldQueue) (p : FramePlace) → Leaving p (queue_effect row h p)
queue_keeps (queues.Advance a t) h p = either_keeps (reaches_queue_head p.memory h.copy.at) p _ _ refl refl
queue_keeps (queues.Transact t) h p = sent_leaving (sending t h.copy.queue_head p.memory).all p _ _ _ _ (λ reply. refl) refl
queue_keeps queues.Miss h p =
    let m = of_queue.writing (missed h).copy miss_outcome p.walk.reply p.memory in
    queue_wrote m.all (missed h) miss_outcome (record p { memory = m.memory })
queue_keeps (queues.WriteBack o) h p =
    let m = of_queue.writing h.copy o p.walk.reply p.memory in
    queue_wrote m.all h o (record p { memory = m.memory })
queue_keeps _ h p = refl

itd_wrote : (b : Bool) (h : HeldItd) (o : IsoEnd) (p : FramePlace) → Keeps p (of_itd.wrote_at b h o p)
unfolding iso_raised
itd_wrote true h o p = refl
itd_wrote false h o p = refl

itd_keeps : (row : ItdRow) (h : HeldItd) (p : FramePlace) → Leaving p (itd_effect row h p)
itd_keeps itds.Skip h p = refl
itd_keeps (itds.Transact t) h p = sent_leaving (itd_sending t h p.memory).all p _ _ _ _ (λ reply. refl) refl
itd_keeps (itds.WriteBack o) h p =
    let m = itd_written h p.walk.got p.memory in
    itd_wrote m.all h o (record p { memory = m.memory })

sitd_wrote : (b : Bool) (h : HeldSitd) (o : SplitOutcome) (p : FramePlace) → Keeps p (of_sitd.wrote_at b h o p)
unfolding iso_raised
sitd_wrote true h o p = refl
sitd_wrote false h o p = refl

sitd_keeps : (row : SitdRow) (h : HeldSitd) (p : FramePlace) → Leaving p (sitd_effect row h p)
sitd_keeps sitds.Skip h p = refl
sitd_keeps (sitds.Transact t) h p = sent_leaving (sitd_sending t h.sitd p.memory).all p _ _ _ _ (λ reply. refl) refl
sitd_keeps sitds.Miss h p =
    let m = of_sitd.writing (missed_copy h) Failed p.walk.reply p.memory in
    sitd_wrote m.all (missed_copy h) Failed (record p { memory = m.memory })
sitd_keeps (sitds.WriteBack o) h p =
    let m = of_sitd.writing h o p.walk.reply p.memory in
    sitd_wrote m.all h o (record p { memory = m.memory })

at_keeps : (p : FramePlace) (o : Option FrameHeld) → Leaving p (effect_at p o)
at_keeps p None = chain_keeps (chain_row p.memory p.walk.cursor) p.registers
at_keeps p (Some (hands.Queue h)) = queue_keeps (queue_row p h) h (reading (queue_read p h) p)
at_keeps p (Some (hands.Itd h)) = itd_keeps (itd_row p.walk.left h) h p
at_keeps p (Some (hands.Sitd h)) = sitd_keeps (sitd_row p h) h p

effect_keeps : {W : Type 0} (transacts : W → Ask → List ℕ → Reply → W → Type 0) (p : FramePlace) (e : Effect) (before : W) (new : FramePlace) (after : W) → Leaving p e → HasEffect transacts e before new after → Keeps p new
effect_keeps transacts p (Leaves q) before new after same made = ap (λ (x : FramePlace). x.registers.frame_index) made.0 ∙ same
effect_keeps transacts p (Asks ask out left_by) before new after each made = ap (λ (x : FramePlace). x.registers.frame_index) made.place ∙ each made.reply

pub frame_index : {W : Type 0} (transacts : W → Ask → List ℕ → Reply → W → Type 0) (p : FramePlace) (before : W) (new : FramePlace) (after : W) → FrameLeads transacts p before new after
    → new.registers.frame_index ≡ p.registers.frame_index
frame_index transacts p before new after lead = effect_keeps transacts p (effect_of p) before new after (at_keeps p p.walk.hand) lead
