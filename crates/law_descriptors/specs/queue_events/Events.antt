-- What an event of the controller leaves of a driver's queues, where it walks a ring and the frames (EHCI 1.0, 3.5, 3.6 and 4.6 to 4.10): the queue heads stand in the one
-- or in the others. Beside the structures of the queues there are those of isochronous descriptors.
--     EventLeaves .. Leaves     each event of either walk leaves it so of the queues' structures
--     BothKeepsStructures       what it keeps of each structure
--     BothKeepsFed, BothKeepsLast, BothKeepsLinks
--                               the pieces of transfers are fed, the ends of queues are last, and links lead to later qTDs
--     PartsStand d parts        the part of each queue head that a walk may meet is sound
--     HaltsStand d parts order out
--                               a qTD that was halted stops each of these queues
--     BothKeepsFronts, BothKeepsReaches, BothKeepsHalts
--                               fronts stay or go on, not past their tails, and halts stop their queues
--     BothLeavesHalted, BothKeepsMends
--                               all structures of a queue head that is halted stay, and so what is owed to those of stalled control endpoints (4.10.3)
--     BothKeepsParts            and the part of each queue head stays sound
use Rattle.std.specs.Prelude.{◌≡◌, ℕ, ◌*◌, Bool, true, List, slice_get, Option, Some}
use Rattle.usb_base.specs.declared.packets.Ask.{Ask}
use Rattle.usb_base.specs.declared.packets.Reply.{Reply}
use Rattle.qh_qtd.specs.declared.queue_head.Qh.{Qh}
use Rattle.drv_table.specs.declared.content.Endpoint.{Endpoint}
use Rattle.drv_table.specs.DriverContent.{DriverContent}
use Rattle.hc_core.specs.Controller.{Content}
use Rattle.law_structures.specs.lent_structures.Structures.{QueueHead, StructureSets}
use Rattle.law_ring.specs.Hand.{Hand}
use Rattle.claims_base.specs.Controller.{Base}
use Rattle.law_ring.specs.Front.{LinksRise}
use Rattle.law_ring.specs.Halted.{HaltStops}
use Rattle.law_controller.specs.controlled_streams.Kept.{KeepsEach}
use Rattle.law_frames.specs.Met.{Kind, IsQueuePart}
use Rattle.law_frames.specs.FrameHand.{FrameHand}
use Rattle.law_controller.specs.frame_control.Both.{RunsBoth, BothEffect}
use Rattle.law_descriptors.specs.Both.{both, parts_now}
use Rattle.law_driver_ring.specs.fed_queues.Fed.{AreFed}
use Rattle.law_driver_ring.specs.fed_queues.Places.{IsMet, AreLast}
use Rattle.law_queues.specs.mended_heads.Waiting.{MendsStand}
use Rattle.law_queues.specs.released_queues.Fronts.{FrontsStand}
use Rattle.law_queues.specs.standing_fronts.Along.{LinksOfQueuesRise}
use Rattle.law_queues.specs.standing_fronts.Reaching.{Reaches}

-- ---- an event

abbrev pub EventLeaves : {W : Type 0} → (W → ℕ → Bool → W → Type 0) → (W → Ask → List ℕ → Reply → W → Type 0) → (StructureSets → StructureSets → Type 0) → Type 0
EventLeaves {W} begins transacts Leaves = (base : Base) (member : ℕ → Bool) (met : ℕ → Option Kind) (descs parts : StructureSets) (hand : Hand) (frame : FrameHand) (c : Content) (wire after : W)
    (now : StructureSets) (later : Hand) (frame_later : FrameHand) → RunsBoth base member met (both descs parts) hand frame c
    → BothEffect begins transacts (both descs parts) c.control hand frame wire after now later frame_later → Leaves parts (parts_now descs parts now)

abbrev pub BothKeepsStructures : {W : Type 0} → (W → ℕ → Bool → W → Type 0) → (W → Ask → List ℕ → Reply → W → Type 0) → Type 0
BothKeepsStructures begins transacts = EventLeaves begins transacts (λ parts now. KeepsEach parts now)

-- ---- transfers, ends and links

abbrev pub BothKeepsFed : {W : Type 0} → (W → ℕ → Bool → W → Type 0) → (W → Ask → List ℕ → Reply → W → Type 0) → Type 0
BothKeepsFed begins transacts = EventLeaves begins transacts (λ parts now. (d : DriverContent) → AreFed d parts → AreFed d now)

abbrev pub BothKeepsLast : {W : Type 0} → (W → ℕ → Bool → W → Type 0) → (W → Ask → List ℕ → Reply → W → Type 0) → Type 0
BothKeepsLast begins transacts = EventLeaves begins transacts (λ parts now. (d : DriverContent) (order : ℕ → ℕ → ℕ) → AreLast d parts order → AreLast d now order)

-- of each queue, whether a walk may meet it or not
abbrev pub BothKeepsLinks : {W : Type 0} → (W → ℕ → Bool → W → Type 0) → (W → Ask → List ℕ → Reply → W → Type 0) → Type 0
BothKeepsLinks begins transacts = EventLeaves begins transacts (λ parts now. (order : ℕ → ℕ) (n : ℕ) → LinksRise order (parts n) → LinksRise order (now n))

-- ---- queues that a walk may meet

abbrev pub PartsStand : DriverContent → StructureSets → Type 0
PartsStand d parts = (e : ℕ) (x : Endpoint) → slice_get d.endpoints e ≡ Some x → IsMet d e x → IsQueuePart (32 * x.queue) (parts (32 * x.queue))

abbrev pub HaltsStand : DriverContent → StructureSets → (ℕ → ℕ → ℕ) → (ℕ → List ℕ) → Type 0
HaltsStand d parts order out =
    (e : ℕ) (x : Endpoint) → slice_get d.endpoints e ≡ Some x → IsMet d e x → HaltStops (order (32 * x.queue)) (out (32 * x.queue)) (32 * x.queue) (parts (32 * x.queue))

abbrev pub BothKeepsFronts : {W : Type 0} → (W → ℕ → Bool → W → Type 0) → (W → Ask → List ℕ → Reply → W → Type 0) → Type 0
BothKeepsFronts begins transacts = EventLeaves begins transacts (λ parts now. (d : DriverContent) (order : ℕ → ℕ → ℕ) (out : ℕ → List ℕ) → PartsStand d parts → LinksOfQueuesRise d parts order
    → FrontsStand d parts order out → FrontsStand d now order out)

-- of one of them, with its tail at c
abbrev pub BothKeepsReaches : {W : Type 0} → (W → ℕ → Bool → W → Type 0) → (W → Ask → List ℕ → Reply → W → Type 0) → Type 0
BothKeepsReaches begins transacts = EventLeaves begins transacts (λ parts now. (d : DriverContent) (order : ℕ → ℕ) (out : List ℕ) (i : ℕ) (x : Endpoint) (c : ℕ)
    → IsQueuePart (32 * x.queue) (parts (32 * x.queue)) → LinksRise order (parts (32 * x.queue)) → Reaches d (parts (32 * x.queue)) order out i x c
    → Reaches d (now (32 * x.queue)) order out i x c)

abbrev pub BothKeepsHalts : {W : Type 0} → (W → ℕ → Bool → W → Type 0) → (W → Ask → List ℕ → Reply → W → Type 0) → Type 0
BothKeepsHalts begins transacts = EventLeaves begins transacts (λ parts now. (d : DriverContent) (order : ℕ → ℕ → ℕ) (out : ℕ → List ℕ) → PartsStand d parts → FrontsStand d parts order out
    → HaltsStand d parts order out → HaltsStand d now order out)

abbrev pub BothLeavesHalted : {W : Type 0} → (W → ℕ → Bool → W → Type 0) → (W → Ask → List ℕ → Reply → W → Type 0) → Type 0
BothLeavesHalted begins transacts = EventLeaves begins transacts (λ parts now. (n : ℕ) (q : Qh) → parts n n ≡ Some (QueueHead q) → q.token.halted ≡ true → now n ≡ parts n)

abbrev pub BothKeepsMends : {W : Type 0} → (W → ℕ → Bool → W → Type 0) → (W → Ask → List ℕ → Reply → W → Type 0) → Type 0
BothKeepsMends begins transacts = EventLeaves begins transacts (λ parts now. (d : DriverContent) (out : ℕ → List ℕ) → MendsStand d parts out → MendsStand d now out)

-- of any queue head, where the walks go on
abbrev pub BothKeepsParts : {W : Type 0} → (W → ℕ → Bool → W → Type 0) → (W → Ask → List ℕ → Reply → W → Type 0) → Type 0
BothKeepsParts {W} begins transacts = (base : Base) (member : ℕ → Bool) (met : ℕ → Option Kind) (descs parts : StructureSets) (hand : Hand) (frame : FrameHand) (c : Content) (wire after : W)
    (now : StructureSets) (later : Hand) (frame_later : FrameHand) (new : Content) → RunsBoth base member met (both descs parts) hand frame c
    → BothEffect begins transacts (both descs parts) c.control hand frame wire after now later frame_later → RunsBoth base member met now later frame_later new
    → (n : ℕ) → IsQueuePart n (parts n) → IsQueuePart n (parts_now descs parts now n)
