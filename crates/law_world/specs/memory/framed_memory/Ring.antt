-- The two stores of a link of the ring, where the controller walks the ring and the frames (EHCI 1.0, 4.8, 4.8.1 and 4.8.2): the frames meet no queue head of the
-- ring, so their walk goes on as it was, and that of the ring as its own law says.
--     IsHeadMet member parts  the head of the ring has its queue head, which the walk of the ring may meet
--     HeadIsMet               where the walk meets the queue heads of the driver, it is so
--     OpenLinkNow             the last store of an open: the head leads to the new queue head, which the walk of the ring may meet from then on
--     OpenLinkMeets           it meets the queue heads of the driver then
--     OpenLendNow             before that its structures are lent, and wait for that store
--     OpenLendMeets           .. and the walk of the ring meets the same queue heads
--     OpenLentStaysNow ..     they wait, whatever the controller does
--     UnlinkNow               the store that leads past a cancelled endpoint's queue head: the walk of the ring may meet it still
--     UnlinkIsDue             where the driver's next event is that store, the ring tells which queue heads these are
--     UnlinkMeets             the walk of the ring meets the queue heads of the driver then
use Rattle.std.specs.Prelude.{◌≡◌, ℕ, ◌*◌, Bool, true, List, Option, Some}
use Rattle.usb_base.specs.declared.packets.Ask.{Ask}
use Rattle.usb_base.specs.declared.packets.Reply.{Reply}
use Rattle.qh_qtd.specs.declared.queue_head.Qh.{Qh}
use Rattle.drv_table.specs.declared.content.Command.TheVariants as unfinished
use Rattle.drv_table.specs.declared.rows.DriverRow.TheVariants as rows
use Rattle.drv_table.specs.DriverContent.{DriverContent}
use Rattle.drv_table.specs.Rows.{driver_row}
use Rattle.hc_core.specs.Controller.{Content}
use Rattle.law_structures.specs.lent_structures.Structures.{QueueHead, StructureSets}
use Rattle.law_ring.specs.Hand.{Hand}
use Rattle.claims_base.specs.Controller.{Base}
use Rattle.law_driver_ring.specs.Linked.{with_member, head_at}
use Rattle.law_driver_ring.specs.fed_queues.Places.{AreMet}
use Rattle.law_queues.specs.open_laws.Opens.{IsOpenLent, head_then, hand_then}
use Rattle.law_queues.specs.open_laws.Lends.{IsOpenReady, parts_lent}
use Rattle.law_world.specs.steps.unlinked_streams.Unlinks.{IsAtUnlink, parts_unlinked, hand_unlinked}
use Rattle.law_queues.specs.shared_memory.Shared.{parts_of, next_parts}
use Rattle.law_frames.specs.Met.{Kind}
use Rattle.law_frames.specs.FrameHand.{FrameHand}
use Rattle.law_controller.specs.frame_control.Both.{BothEffect}
use Rattle.law_descriptors.specs.Both.{both, parts_now}
use Rattle.law_world.specs.memory.framed_memory.Now.{IsFramedNow, FramedNext}

-- ---- an open is linked (4.8.1)

pub record IsHeadMet (member : ℕ → Bool) (parts : StructureSets) : Type 0 where
  pub queue : Qh
  pub here : parts head_at head_at ≡ Some (QueueHead queue)
  pub on : member head_at ≡ true

abbrev pub HeadIsMet : Type 0
HeadIsMet = (base : Base) (member : ℕ → Bool) (recent : ℕ → Option Kind) (descs parts : StructureSets) (hand : Hand) (frame : FrameHand) (c : Content) (d : DriverContent)
    → IsFramedNow base member recent descs parts hand frame c d → AreMet d member → IsHeadMet member parts

abbrev pub OpenLinkNow : Type 0
OpenLinkNow = (base : Base) (member : ℕ → Bool) (recent : ℕ → Option Kind) (descs parts : StructureSets) (hand : Hand) (frame : FrameHand) (c : Content) (d : DriverContent)
    → IsFramedNow base member recent descs parts hand frame c d → (k : IsOpenLent d member parts) (h : IsHeadMet member parts)
    → FramedNext base (with_member member (32 * k.endpoint.queue)) recent descs (head_then parts h.queue k.endpoint) (hand_then hand k.endpoint) frame c d

abbrev pub OpenLinkMeets : Type 0
OpenLinkMeets = (base : Base) (member : ℕ → Bool) (recent : ℕ → Option Kind) (descs parts : StructureSets) (hand : Hand) (frame : FrameHand) (c : Content) (d : DriverContent)
    → IsFramedNow base member recent descs parts hand frame c d → (k : IsOpenLent d member parts) → AreMet d member
    → AreMet (next_parts c d).driver (with_member member (32 * k.endpoint.queue))

-- where the queue head of an accepted open is ready, it is lent
abbrev pub OpenLendNow : Type 0
OpenLendNow = (base : Base) (member : ℕ → Bool) (recent : ℕ → Option Kind) (descs parts : StructureSets) (hand : Hand) (frame : FrameHand) (c : Content) (d : DriverContent)
    → IsFramedNow base member recent descs parts hand frame c d → (k : IsOpenReady d c.memory)
    → FramedNext base member recent descs (parts_lent parts k) hand frame c d × IsOpenLent (next_parts c d).driver member (parts_lent parts k)

abbrev pub OpenLendMeets : Type 0
OpenLendMeets = (c : Content) (d : DriverContent) (member : ℕ → Bool) → IsOpenReady d c.memory → AreMet d member → AreMet (next_parts c d).driver member

-- neither walk meets it
abbrev pub OpenLentStaysNow : {W : Type 0} → (W → ℕ → Bool → W → Type 0) → (W → Ask → List ℕ → Reply → W → Type 0) → Type 0
OpenLentStaysNow {W} begins transacts = (base : Base) (member : ℕ → Bool) (recent : ℕ → Option Kind) (descs parts : StructureSets) (hand : Hand) (frame : FrameHand) (c : Content)
    (d : DriverContent) (wire after : W) (now : StructureSets) (later : Hand) (frame_later : FrameHand) → IsFramedNow base member recent descs parts hand frame c d → IsHeadMet member parts
    → IsOpenLent d member parts → BothEffect begins transacts (both descs parts) c.control hand frame wire after now later frame_later → IsOpenLent d member (parts_now descs parts now)

-- ---- an endpoint leaves the ring (4.8.2)

abbrev pub UnlinkNow : Type 0
UnlinkNow = (base : Base) (member : ℕ → Bool) (recent : ℕ → Option Kind) (descs parts : StructureSets) (hand : Hand) (frame : FrameHand) (c : Content) (d : DriverContent)
    → IsFramedNow base member recent descs parts hand frame c d → (k : IsAtUnlink d member parts)
    → FramedNext base member recent descs (parts_unlinked parts k.before k.queue k.after) (hand_unlinked hand k.before k.after) frame c d

abbrev pub UnlinkIsDue : Type 0
UnlinkIsDue = (base : Base) (member : ℕ → Bool) (recent : ℕ → Option Kind) (descs parts : StructureSets) (hand : Hand) (frame : FrameHand) (c : Content) (d : DriverContent) (e b link : ℕ)
    → IsFramedNow base member recent descs parts hand frame c d → d.command ≡ Some (unfinished.Unlink e b link) → driver_row (parts_of c d) ≡ rows.Store b (32 * b) link → AreMet d member
    → IsAtUnlink d member parts

abbrev pub UnlinkMeets : Type 0
UnlinkMeets = (c : Content) (d : DriverContent) (member : ℕ → Bool) (parts : StructureSets) → IsAtUnlink d member parts → AreMet d member → AreMet (next_parts c d).driver member
