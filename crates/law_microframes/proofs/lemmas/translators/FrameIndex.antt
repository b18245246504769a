-- In the periodic part the walk of the frames has the index of FRINDEX (EHCI 1.0, 2.3.4 and 4.4).
use Rattle.std.proofs.Common.{◌≡◌, ℕ, Bool, true, false, if◌then◌else◌, List, Option, Some, None, Result, Ok, Err, refl, sym, ◌∙◌}
use Rattle.law_microframes.proofs.Common.{ring_no, over_no}
use Rattle.usb_base.specs.declared.endpoints.EpName.{EpName}
use Rattle.usb_base.specs.declared.packets.Ask.{Ask}
use Rattle.usb_base.specs.declared.packets.Reply.{Reply}
use Rattle.usb_base.specs.declared.reports.OfferError.{OfferError}
use Rattle.script_types.specs.declared.scripts.Script.{Script}
use Rattle.script_fits.specs.Fits.{IsFit}
use Rattle.word_mem.specs.Memory.{reaches}
use Rattle.op_registers.specs.Events.{after_begin}
use Rattle.toggle_error.specs.declared.host.Outcome.{Outcome}
use Rattle.mem_queues.specs.Structures.{reaches_queue_head}
use Rattle.hc_copy.specs.Buffer.{sending}
use Rattle.hc_copy.specs.WriteBack.{raised}
use Rattle.hc_iso.specs.declared.held.HeldItd.{HeldItd}
use Rattle.hc_iso.specs.declared.held.HeldSitd.{HeldSitd}
use Rattle.hc_iso.specs.declared.held.IsoEnd.{IsoEnd}
use Rattle.hc_iso.specs.declared.held.SplitOutcome.{SplitOutcome}
use Rattle.hc_iso.specs.declared.held.SplitOutcome.TheVariants.{Failed}
use Rattle.hc_iso.specs.Sitd.{missed_copy}
use Rattle.hc_iso.specs.WriteBack.{iso_raised, itd_sending, itd_written, sitd_sending}
use Rattle.periodic_walk.specs.declared.state.Hand.{Hand}
use Rattle.periodic_walk.specs.declared.state.Hand.TheVariants as hands
use Rattle.periodic_walk.specs.declared.state.HeldQueue.{HeldQueue}
use Rattle.periodic_walk.specs.declared.chain.ChainRow.{ChainRow}
use Rattle.periodic_walk.specs.declared.chain.ChainRow.TheVariants as chains
use Rattle.periodic_walk.specs.declared.queue.QueueRow.{QueueRow}
use Rattle.periodic_walk.specs.declared.queue.QueueRow.TheVariants as queues
use Rattle.periodic_walk.specs.declared.itd.ItdRow.{ItdRow}
use Rattle.periodic_walk.specs.declared.itd.ItdRow.TheVariants as itds
use Rattle.periodic_walk.specs.declared.sitd.SitdRow.{SitdRow}
use Rattle.periodic_walk.specs.declared.sitd.SitdRow.TheVariants as sitds
use Rattle.periodic_walk.specs.Place.{FramePlace, reading, Effect, sent}
use Rattle.periodic_walk.specs.Place.Effect.{Leaves, Asks}
use Rattle.periodic_walk.specs.Walk.{Walk}
use Rattle.periodic_walk.specs.Chain.{chain_row, chain_read, chain_after}
use Rattle.periodic_walk.specs.Queue.{queue_row, queue_read, queue_effect, visit_after, missed, miss_outcome}
use Rattle.periodic_walk.specs.Queue as of_queue
use Rattle.hc_interrupt.specs.Copies.{goes_on}
use Rattle.periodic_walk.specs.Itd.{itd_row, itd_effect}
use Rattle.periodic_walk.specs.Itd as of_itd
use Rattle.periodic_walk.specs.Sitd.{sitd_row, sitd_effect}
use Rattle.periodic_walk.specs.Sitd as of_sitd
use Rattle.periodic_walk.specs.Rows.{effect_at, effect_of}
use Rattle.hc_core.specs.declared.controller.ControllerRow.{ControllerRow}
use Rattle.hc_core.specs.declared.controller.ControllerRow.TheVariants as rows
use Rattle.hc_core.specs.declared.controller.MicroframePart.TheVariants.{Over, Periodic}
use Rattle.hc_core.specs.Controller.{Content, begun_at, element_address, entered, frame_place, walk_step}
use Rattle.bus_wire.specs.Bus.{Bus, Fixed, fixed_of, is_allowed}
use Rattle.drv_table.specs.Accepting.{Offered}
use Rattle.drv_table.specs.Offers.{offered}
use Rattle.bus_world.specs.World.{World, controller_parts, controller_row, frame_by, turned_by, name_in, commanded_by}
use Rattle.bus_world.specs.Budgets.{moment}
use Rattle.law_world.specs.steps.receiving_runs.Runs.{IsKeptBy}
use Rattle.law_world.proofs.lemmas.steps.lemmas.receiving_runs.Runs.{holds_throughout}
use Rattle.law_microframes.proofs.lemmas.plans.Right.{AnyCommand, any_lines}
use Rattle.law_microframes.proofs.lemmas.time.PaymentIsochronous.{driver_index}
use Rattle.law_microframes.proofs.lemmas.visits.ReasonParts.{InPart, row_in}

-- ---- an event of the walk of the frames

abbrev Keeps : FramePlace → FramePlace → Type 0
Keeps p new = (new.walk.index ≡ p.walk.index) × (new.registers.frame_index ≡ p.registers.frame_index)

abbrev Leaving : FramePlace → Effect → Type 0
Leaving p (Leaves q) = Keeps p q
Leaving p (Asks ask out left_by) = (reply : Reply) → Keeps p (left_by reply)

sent_leaving : (b : Bool) (p : FramePlace) (ask : Ask) (out : List ℕ) (left_by : Reply → FramePlace) (there : FramePlace)
    → ((reply : Reply) → Keeps p (left_by reply)) → Keeps p there → Leaving p (sent b ask out left_by there)
sent_leaving true p ask out left_by there each same = each
sent_leaving false p ask out left_by there each same = same

chain_keeps : (row : ChainRow) (m : FramePlace) → Keeps m (chain_after row m)
chain_keeps chains.Fault m = (refl, refl)
chain_keeps chains.Ends m = (refl, refl)
chain_keeps (chains.Queue a q) m = (refl, refl)
chain_keeps (chains.Itd a v) m = (refl, refl)
chain_keeps (chains.Sitd a v) m = (refl, refl)

either_keeps : (b : Bool) (p x y : FramePlace) → Keeps p x → Keeps p y → Keeps p (if b then x else y)
either_keeps true p x y one other = one
either_keeps false p x y one other = other

visit_keeps : (b : Bool) (v w : Walk) (i : ℕ) → v.index ≡ i → w.index ≡ i → (if b then v else w).index ≡ i
visit_keeps true v w i one other = one
visit_keeps false v w i one other = other

queue_wrote : (b : Bool) (h : HeldQueue) (o : Outcome) (p : FramePlace) → Keeps p (of_queue.wrote_at b h o p)
unfolding raised
queue_wrote true h o p = (visit_keeps (goes_on h.made h.copy.queue_head o) _ _ p.walk.index refl refl, refl)
queue_wrote false h o p = (refl, refl)

queue_keeps : (row : QueueRow) (h : HeldQueue) (p : FramePlace) → Leaving p (queue_effect row h p)
queue_keeps (queues.Advance a t) h p = either_keeps (reaches_queue_head p.memory h.copy.at) p _ _ (refl, refl) (refl, refl)
queue_keeps (queues.Transact t) h p = sent_leaving (sending t h.copy.queue_head p.memory).all p _ _ _ _ (λ reply. (refl, refl)) (refl, refl)
queue_keeps queues.Miss h p =
    let m = of_queue.writing (missed h).copy miss_outcome p.walk.reply p.memory in
    queue_wrote m.all (missed h) miss_outcome (record p { memory = m.memory })
queue_keeps (queues.WriteBack o) h p =
    let m = of_queue.writing h.copy o p.walk.reply p.memory in
    queue_wrote m.all h o (record p { memory = m.memory })
queue_keeps queues.Fault h p = (refl, refl)
queue_keeps queues.Skip h p = (refl, refl)

itd_wrote : (b : Bool) (h : HeldItd) (o : IsoEnd) (p : FramePlace) → Keeps p (of_itd.wrote_at b h o p)
unfolding iso_raised
itd_wrote true h o p = (refl, refl)
itd_wrote false h o p = (refl, refl)

itd_keeps : (row : ItdRow) (h : HeldItd) (p : FramePlace) → Leaving p (itd_effect row h p)
itd_keeps itds.Skip h p = (refl, refl)
itd_keeps (itds.Transact t) h p = sent_leaving (itd_sending t h p.memory).all p _ _ _ _ (λ reply. (refl, refl)) (refl, refl)
itd_keeps (itds.WriteBack o) h p =
    let m = itd_written h p.walk.got p.memory in
    itd_wrote m.all h o (record p { memory = m.memory })

sitd_wrote : (b : Bool) (h : HeldSitd) (o : SplitOutcome) (p : FramePlace) → Keeps p (of_sitd.wrote_at b h o p)
unfolding iso_raised
sitd_wrote true h o p = (refl, refl)
sitd_wrote false h o p = (refl, refl)

sitd_keeps : (row : SitdRow) (h : HeldSitd) (p : FramePlace) → Leaving p (sitd_effect row h p)
sitd_keeps sitds.Skip h p = (refl, refl)
sitd_keeps (sitds.Transact t) h p = sent_leaving (sitd_sending t h.sitd p.memory).all p _ _ _ _ (λ reply. (refl, refl)) (refl, refl)
sitd_keeps sitds.Miss h p =
    let m = of_sitd.writing (missed_copy h) Failed p.walk.reply p.memory in
    sitd_wrote m.all (missed_copy h) Failed (record p { memory = m.memory })
sitd_keeps (sitds.WriteBack o) h p =
    let m = of_sitd.writing h o p.walk.reply p.memory in
    sitd_wrote m.all h o (record p { memory = m.memory })

at_keeps : (p : FramePlace) (o : Option Hand) → Leaving p (effect_at p o)
at_keeps p None = chain_keeps (chain_row p.memory p.walk.cursor) (reading (chain_read p.memory p.walk.cursor) p)
at_keeps p (Some (hands.Queue h)) = queue_keeps (queue_row p h) h (reading (queue_read p h) p)
at_keeps p (Some (hands.Itd h)) = itd_keeps (itd_row p.walk.left h) h p
at_keeps p (Some (hands.Sitd h)) = sitd_keeps (sitd_row p h) h p

by_keeps : (fixed : Fixed) (p : FramePlace) (e : Effect) (b : Bus) → Leaving p e → Keeps p (frame_by fixed e b).place
by_keeps fixed p (Leaves q) b k = k
by_keeps fixed p (Asks ask out left_by) b k = k _

-- ---- an event of the controller

abbrev HasIndex : Content → Type 0
HasIndex c = c.control.part ≡ Periodic → c.control.frame.index ≡ c.registers.frame_index

begun_index : (reached allowed : Bool) (c : Content) → c.control.part ≡ Over → HasIndex (begun_at reached allowed c)
begun_index true allowed c over = λ on. refl
begun_index false allowed c over = λ on. absurd (over_no (sym over ∙ on))

turn_index : (fixed : Fixed) (row : ControllerRow) (c : Content) (b : Bus) → InPart row c.control.part → HasIndex c
    → HasIndex (turned_by fixed row c b).content
turn_index fixed rows.Idle c b at h = h
turn_index fixed rows.Begin c b at h =
    begun_index (reaches c.memory (element_address (after_begin c.registers))) (is_allowed fixed b)
    (record c { registers = after_begin c.registers }) at
turn_index fixed rows.Frame c b at h =
    λ on.
    let k = by_keeps fixed (frame_place c) (effect_of (frame_place c)) b (at_keeps (frame_place c) (frame_place c).walk.hand) in
    k.0 ∙ h at ∙ sym k.1
turn_index fixed rows.Enter c b at h = λ on. absurd (ring_no (walk_step (entered c)) on)
turn_index fixed rows.Go c b at h = λ on. absurd (ring_no (walk_step c) on)
turn_index fixed rows.End c b at h = λ on. absurd (over_no on)

-- ---- a run

abbrev pub HasFrameIndex : World → Type 0
HasFrameIndex w = HasIndex (controller_parts w)

offered_index : (w : World) (line : ℕ) (name : EpName) (r : Result Offered OfferError) → HasFrameIndex w
    → HasFrameIndex (commanded_by w line name r)
offered_index w line name (Ok o) h = h
offered_index w line name (Err why) h = h

index_kept : (s : Script) → IsKeptBy (fixed_of s) AnyCommand HasFrameIndex
index_kept s = record {
  driver = λ w h on. h on ∙ sym (driver_index w);
  controller = λ w h. turn_index (fixed_of s) (controller_row w) (controller_parts w) w.bus (row_in w) h;
  command = λ w line cmd can room h. offered_index w line (name_in cmd) (offered w.driver w.memory cmd) h;
}

pub scripts_have_index : (s : Script) → IsFit s → (k : ℕ) → HasFrameIndex (moment s k).world
scripts_have_index s fit k = holds_throughout AnyCommand HasFrameIndex s fit (any_lines s.lines) (λ on. absurd (over_no on))
    (index_kept s) k
