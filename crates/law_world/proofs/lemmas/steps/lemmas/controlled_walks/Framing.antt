-- Each event of the walk of a frame's chain leaves the doorbell, Async Advance and the ring's address.
use Rattle.std.proofs.Common.{ℕ, Bool, true, false, if◌then◌else◌, List, Option, Some, None, refl, sym, subst}
use Rattle.usb_base.specs.declared.packets.Ask.{Ask}
use Rattle.usb_base.specs.declared.packets.Reply.{Reply}
use Rattle.op_registers.specs.RegisterFile.{RegisterFile}
use Rattle.op_registers.specs.Events.{after_fault}
use Rattle.qh_qtd.specs.declared.queue_head.Qh.{Qh}
use Rattle.qh_qtd.specs.declared.qtd.Qtd.{Qtd}
use Rattle.toggle_error.specs.declared.host.Outcome.{Outcome}
use Rattle.mem_queues.specs.Structures.{reaches_queue_head}
use Rattle.hc_copy.specs.Buffer.{Writing, sending}
use Rattle.hc_copy.specs.WriteBack.{raised}
use Rattle.hc_iso.specs.declared.held.HeldItd.{HeldItd}
use Rattle.hc_iso.specs.declared.held.HeldSitd.{HeldSitd}
use Rattle.hc_iso.specs.declared.held.IsoEnd.{IsoEnd}
use Rattle.hc_iso.specs.declared.held.SplitOutcome.{SplitOutcome}
use Rattle.hc_iso.specs.declared.held.SplitOutcome.TheVariants.{Failed}
use Rattle.hc_iso.specs.Sitd.{missed_copy}
use Rattle.hc_iso.specs.WriteBack.{iso_raised, itd_sending, itd_written, sitd_sending}
use Rattle.periodic_walk.specs.declared.chain.ChainRow.{ChainRow}
use Rattle.periodic_walk.specs.declared.chain.ChainRow.TheVariants as chain_rows
use Rattle.periodic_walk.specs.declared.queue.QueueRow.{QueueRow}
use Rattle.periodic_walk.specs.declared.queue.QueueRow.TheVariants as queue_rows
use Rattle.periodic_walk.specs.declared.itd.ItdRow.{ItdRow}
use Rattle.periodic_walk.specs.declared.itd.ItdRow.TheVariants as itd_rows
use Rattle.periodic_walk.specs.declared.sitd.SitdRow.{SitdRow}
use Rattle.periodic_walk.specs.declared.sitd.SitdRow.TheVariants as sitd_rows
use Rattle.periodic_walk.specs.declared.state.HeldQueue.{HeldQueue}
use Rattle.periodic_walk.specs.declared.state.Hand.{Hand}
use Rattle.periodic_walk.specs.declared.state.Hand.TheVariants as hands
use Rattle.periodic_walk.specs.Place.{FramePlace, reading, faulted, Effect, HasEffect, sent}
use Rattle.periodic_walk.specs.Place.Effect.{Leaves, Asks}
use Rattle.periodic_walk.specs.Chain.{chain_row, chain_registers}
use Rattle.periodic_walk.specs.Queue.{queue_read, queue_row, took, missed, miss_outcome, wrote_at, wrote, writing, queue_effect}
use Rattle.periodic_walk.specs.Itd.{itd_row, itd_effect, wrote_at as itd_wrote_at}
use Rattle.periodic_walk.specs.Sitd.{sitd_row, sitd_effect, wrote_at as sitd_wrote_at, wrote as sitd_wrote, writing as sitd_writing}
use Rattle.periodic_walk.specs.Rows.{effect_at, effect_of, Leads}
use Rattle.law_world.specs.steps.controlled_walks.Walks.{LeavesDoorbell}

-- ---- registers

pub same_doorbell : (r : RegisterFile) → LeavesDoorbell r r
same_doorbell r = record { doorbell = refl; async_advance = refl; address = refl }

pub fault_doorbell : (r : RegisterFile) → LeavesDoorbell r (after_fault r)
fault_doorbell r = record { doorbell = refl; async_advance = refl; address = refl }

raised_doorbell : (q : Qh) (outcome : Outcome) (r : RegisterFile) → LeavesDoorbell r (raised q outcome r)
unfolding raised
raised_doorbell q outcome r = record { doorbell = refl; async_advance = refl; address = refl }

iso_doorbell : (ended failed : Bool) (r : RegisterFile) → LeavesDoorbell r (iso_raised ended failed r)
unfolding iso_raised
iso_doorbell ended failed r = record { doorbell = refl; async_advance = refl; address = refl }

either_doorbell : (r : RegisterFile) (b : Bool) (x y : FramePlace) → LeavesDoorbell r x.registers → LeavesDoorbell r y.registers → LeavesDoorbell r (if b then x else y).registers
either_doorbell r true x y one two = one
either_doorbell r false x y one two = two

-- ---- what an effect leaves

abbrev EffectLeaves : RegisterFile → Effect → Type 0
EffectLeaves r (Leaves p) = LeavesDoorbell r p.registers
EffectLeaves r (Asks ask out left_by) = (reply : Reply) → LeavesDoorbell r (left_by reply).registers

effect_doorbell : {W : Type 0} (transacts : W → Ask → List ℕ → Reply → W → Type 0) (r : RegisterFile) (e : Effect) (before : W) (new : FramePlace) (after : W) → EffectLeaves r e → HasEffect transacts e before new after → LeavesDoorbell r new.registers
effect_doorbell transacts r (Leaves p) before new after leaves has = subst (λ (x : FramePlace). LeavesDoorbell r x.registers) (sym has.0) leaves
effect_doorbell transacts r (Asks ask out left_by) before new after leaves has = subst (λ (x : FramePlace). LeavesDoorbell r x.registers) (sym has.place) (leaves has.reply)

sent_doorbell : (r : RegisterFile) (b : Bool) (ask : Ask) (out : List ℕ) (left_by : Reply → FramePlace) (p : FramePlace) → ((reply : Reply) → LeavesDoorbell r (left_by reply).registers) → LeavesDoorbell r (faulted p).registers → EffectLeaves r (sent b ask out left_by p)
sent_doorbell r true ask out left_by p asked stuck = asked
sent_doorbell r false ask out left_by p asked stuck = stuck

-- ---- the chain leads on

chain_doorbell : (row : ChainRow) (r : RegisterFile) → LeavesDoorbell r (chain_registers row r)
chain_doorbell chain_rows.Fault r = fault_doorbell r
chain_doorbell _ r = same_doorbell r

-- ---- the queue head in hand

took_doorbell : (h : HeldQueue) (a : ℕ) (t : Qtd) (p : FramePlace) → LeavesDoorbell p.registers (took h a t p).registers
took_doorbell h a t p = either_doorbell p.registers (reaches_queue_head p.memory h.copy.at) _ _ (same_doorbell p.registers) (fault_doorbell p.registers)

wrote_by : (b : Bool) (h : HeldQueue) (outcome : Outcome) (p : FramePlace) → LeavesDoorbell p.registers (wrote_at b h outcome p).registers
wrote_by true h outcome p = raised_doorbell h.copy.queue_head outcome p.registers
wrote_by false h outcome p = fault_doorbell p.registers

wrote_doorbell : (h : HeldQueue) (outcome : Outcome) (p : FramePlace) → LeavesDoorbell p.registers (wrote h outcome p).registers
wrote_doorbell h outcome p =
    let w : Writing = writing h.copy outcome p.walk.reply p.memory in
    wrote_by w.all h outcome (record p { memory = w.memory })

queue_doorbell : (row : QueueRow) (h : HeldQueue) (p : FramePlace) → EffectLeaves p.registers (queue_effect row h p)
queue_doorbell queue_rows.Fault h p = fault_doorbell p.registers
queue_doorbell queue_rows.Skip h p = same_doorbell p.registers
queue_doorbell (queue_rows.Advance a t) h p = took_doorbell h a t p
queue_doorbell (queue_rows.Transact t) h p =
    sent_doorbell p.registers (sending t h.copy.queue_head p.memory).all _ _ _ _ (λ reply. same_doorbell p.registers) (fault_doorbell p.registers)
queue_doorbell queue_rows.Miss h p = wrote_doorbell (missed h) miss_outcome p
queue_doorbell (queue_rows.WriteBack outcome) h p = wrote_doorbell h outcome p

-- ---- the iTD in hand

itd_wrote_by : (b : Bool) (h : HeldItd) (ended : IsoEnd) (p : FramePlace) → LeavesDoorbell p.registers (itd_wrote_at b h ended p).registers
itd_wrote_by true h ended p = iso_doorbell _ _ p.registers
itd_wrote_by false h ended p = fault_doorbell p.registers

itd_doorbell : (row : ItdRow) (h : HeldItd) (p : FramePlace) → EffectLeaves p.registers (itd_effect row h p)
itd_doorbell itd_rows.Skip h p = same_doorbell p.registers
itd_doorbell (itd_rows.Transact t) h p = sent_doorbell p.registers (itd_sending t h p.memory).all _ _ _ _ (λ reply. same_doorbell p.registers) (fault_doorbell p.registers)
itd_doorbell (itd_rows.WriteBack ended) h p =
    let w : Writing = itd_written h p.walk.got p.memory in
    itd_wrote_by w.all h ended (record p { memory = w.memory })

-- ---- the siTD in hand

sitd_wrote_by : (b : Bool) (h : HeldSitd) (outcome : SplitOutcome) (p : FramePlace) → LeavesDoorbell p.registers (sitd_wrote_at b h outcome p).registers
sitd_wrote_by true h outcome p = iso_doorbell _ _ p.registers
sitd_wrote_by false h outcome p = fault_doorbell p.registers

sitd_wrote_doorbell : (h : HeldSitd) (outcome : SplitOutcome) (p : FramePlace) → LeavesDoorbell p.registers (sitd_wrote h outcome p).registers
sitd_wrote_doorbell h outcome p =
    let w : Writing = sitd_writing h outcome p.walk.reply p.memory in
    sitd_wrote_by w.all h outcome (record p { memory = w.memory })

sitd_doorbell : (row : SitdRow) (h : HeldSitd) (p : FramePlace) → EffectLeaves p.registers (sitd_effect row h p)
sitd_doorbell sitd_rows.Skip h p = same_doorbell p.registers
sitd_doorbell (sitd_rows.Transact t) h p = sent_doorbell p.registers (sitd_sending t h.sitd p.memory).all _ _ _ _ (λ reply. same_doorbell p.registers) (fault_doorbell p.registers)
sitd_doorbell sitd_rows.Miss h p = sitd_wrote_doorbell (missed_copy h) Failed p
sitd_doorbell (sitd_rows.WriteBack outcome) h p = sitd_wrote_doorbell h outcome p

-- ---- an event

hand_doorbell : (p : FramePlace) (o : Option Hand) → EffectLeaves p.registers (effect_at p o)
hand_doorbell p None = chain_doorbell (chain_row p.memory p.walk.cursor) p.registers
hand_doorbell p (Some (hands.Queue h)) = queue_doorbell (queue_row p h) h (reading (queue_read p h) p)
hand_doorbell p (Some (hands.Itd h)) = itd_doorbell (itd_row p.walk.left h) h p
hand_doorbell p (Some (hands.Sitd h)) = sitd_doorbell (sitd_row p h) h p

pub frame_doorbell : {W : Type 0} (transacts : W → Ask → List ℕ → Reply → W → Type 0) (p : FramePlace) (before : W) (new : FramePlace) (after : W) → Leads transacts p before new after → LeavesDoorbell p.registers new.registers
frame_doorbell transacts p before new after leads = effect_doorbell transacts p.registers (effect_of p) before new after (hand_doorbell p p.walk.hand) leads
