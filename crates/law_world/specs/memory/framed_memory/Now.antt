-- A driver and a controller over one memory, where the walk of the frames meets the members of the driver's frame list and what was unlinked in this microframe
-- (EHCI 1.0, 2.3.4, 3, 4.6, 4.7 and 4.12.3).
--     IsFramedNow base member recent descs parts hand frame c d
--                             memory is framed, and those are met that stand in the driver's frame list, or are `recent`: these were unlinked in this microframe,
--                             and none of them stands; an endpoint whose members are unlinked is in its frames, a descriptor that is linked waits there, the
--                             driver's descriptors are in step, and its endpoints planned
--     FramedNext ..           so it is once the driver had its next event
--     NowHasFrames            the words of memory stand for the driver's frame list, whose members are spread
--     NewIsFramedNow          a driver that was just built and a new controller are so
--     recent_then row recent  a microframe that begins leaves nothing that was unlinked in it, and any other event of the controller leaves what is recent
--     FramedNowAfter ..       an event of the controller, and the same after it, with what the structures became and what is recent then
--     ControllerKeepsNow ..   the law
--     reads_alone row         FRINDEX or USBSTS is read, Async Advance is cleared, the doorbell is rung, or there is nothing to do
--     RegistersKeepNow        such a row keeps it, with the same structures, the same in both hands, and the same that is recent
use Rattle.std.specs.Prelude.{◌≡◌, ℕ, ◌%◌, ◌≤◌, Bool, true, false, List, Option}
use Rattle.usb_base.specs.declared.packets.Ask.{Ask}
use Rattle.usb_base.specs.declared.packets.Reply.{Reply}
use Rattle.hc_core.specs.declared.controller.ControllerRow.{ControllerRow}
use Rattle.hc_core.specs.declared.controller.ControllerRow.TheVariants as events
use Rattle.hc_core.specs.Controller.{Content, content, new_control, microframe_row, HasRow}
use Rattle.drv_table.specs.declared.content.Reserve.{Reserve}
use Rattle.drv_table.specs.declared.rows.DriverRow.{DriverRow}
use Rattle.drv_table.specs.declared.rows.DriverRow.TheVariants as rows
use Rattle.drv_table.specs.DriverContent.{DriverContent}
use Rattle.drv_table.specs.Opening.{opening}
use Rattle.drv_table.specs.Rows.{driver_row}
use Rattle.law_structures.specs.lent_structures.Structures.{StructureSets}
use Rattle.law_ring.specs.Hand.{Hand, Empty}
use Rattle.claims_base.specs.Controller.{Base, opening_base}
use Rattle.law_ring.specs.Effects.{AreBytesHeard}
use Rattle.law_driver_ring.specs.PartOpened.{no_parts, opening_parts, is_head}
use Rattle.law_queues.specs.shared_memory.Shared.{parts_of, next_parts, after_driver}
use Rattle.law_driver.specs.planned_endpoints.Planned.{IsPlanned}
use Rattle.law_driver.specs.iso_frames.Frames.{AreInFrames}
use Rattle.law_frames.specs.Met.{Kind}
use Rattle.law_frames.specs.FrameHand.{FrameHand, Nothing}
use Rattle.law_controller.specs.frame_control.Both.{BothEffect}
use Rattle.law_descriptors.specs.Both.{both, descs_now, parts_now}
use Rattle.law_descriptors.specs.Meeting.{no_recent, met}
use Rattle.law_descriptors.specs.Growing.{AreApartFrom}
use Rattle.law_descriptors.specs.Recent.{AreRecent}
use Rattle.law_descriptors.specs.ListRows.{LeavesChained}
use Rattle.law_descriptors.specs.Queued.{LinksQueued}
use Rattle.law_descriptors.specs.RowLaws.{HasFrames}
use Rattle.law_world.specs.memory.framed_memory.Framed.{IsFramed}

pub record IsFramedNow (base : Base) (member : ℕ → Bool) (recent : ℕ → Option Kind) (descs parts : StructureSets) (hand : Hand) (frame : FrameHand) (c : Content) (d : DriverContent) : Type 0
  where
    pub framed : IsFramed base member (met d recent) descs parts hand frame c d
    pub recent_are : AreRecent d c.registers.frame_index recent
    pub apart : AreApartFrom d recent
    pub chained : LeavesChained d
    pub queued : LinksQueued d
    pub planned : IsPlanned d
    pub in_frames : AreInFrames d

abbrev pub FramedNext : Base → (ℕ → Bool) → (ℕ → Option Kind) → StructureSets → StructureSets → Hand → FrameHand → Content → DriverContent → Type 0
FramedNext base member recent descs parts hand frame c d = IsFramedNow base member recent descs parts hand frame (after_driver c d) (next_parts c d).driver

abbrev pub NowHasFrames : Type 0
NowHasFrames = (base : Base) (member : ℕ → Bool) (recent : ℕ → Option Kind) (descs parts : StructureSets) (hand : Hand) (frame : FrameHand) (c : Content) (d : DriverContent)
    → IsFramedNow base member recent descs parts hand frame c d → HasFrames c.memory d

-- ---- the opening

abbrev pub NewIsFramedNow : Type 0
NewIsFramedNow = (n : ℕ) (room : Reserve) → 2048 ≤ n → n ≤ 262144 → n % 1024 ≡ 0
    → IsFramedNow opening_base is_head no_recent no_parts opening_parts Empty Nothing (content new_control (opening n room).registers (opening n room).memory) (opening n room).driver

-- ---- an event of the controller

abbrev pub recent_then : ControllerRow → (ℕ → Option Kind) → ℕ → Option Kind
recent_then events.Begin recent = no_recent
recent_then events.Idle recent = recent
recent_then events.Frame recent = recent
recent_then events.Enter recent = recent
recent_then events.Go recent = recent
recent_then events.End recent = recent

pub record FramedNowAfter {W : Type 0} (begins : W → ℕ → Bool → W → Type 0) (transacts : W → Ask → List ℕ → Reply → W → Type 0) (base : Base) (member : ℕ → Bool)
    (recent : ℕ → Option Kind) (descs parts : StructureSets) (hand : Hand) (frame : FrameHand) (c : Content) (d : DriverContent) (wire after : W) (new : Content) : Type 0 where
  pub now : StructureSets
  pub later : Hand
  pub frame_later : FrameHand
  pub effect : BothEffect begins transacts (both descs parts) c.control hand frame wire after now later frame_later
  pub framed : IsFramedNow base member recent (descs_now descs now) (parts_now descs parts now) later frame_later new d

abbrev pub ControllerKeepsNow : {W : Type 0} → (W → ℕ → Bool → W → Type 0) → (W → Ask → List ℕ → Reply → W → Type 0) → Type 0
ControllerKeepsNow {W} begins transacts = (base : Base) (member : ℕ → Bool) (recent : ℕ → Option Kind) (descs parts : StructureSets) (hand : Hand) (frame : FrameHand) (c : Content)
    (d : DriverContent) (wire : W) (new : Content) (after : W) → IsFramedNow base member recent descs parts hand frame c d
    → AreBytesHeard transacts wire after → HasRow begins transacts (microframe_row c.registers c.control) c wire new after
    → FramedNowAfter begins transacts base member (recent_then (microframe_row c.registers c.control) recent) descs parts hand frame c d wire after new

-- ---- registers

abbrev pub reads_alone : DriverRow → Bool
reads_alone (rows.ReadFrame n) = true
reads_alone (rows.ReadStatus heard) = true
reads_alone rows.ClearAdvance = true
reads_alone rows.RingBell = true
reads_alone rows.Rest = true
reads_alone _ = false

abbrev pub RegistersKeepNow : Type 0
RegistersKeepNow = (base : Base) (member : ℕ → Bool) (recent : ℕ → Option Kind) (descs parts : StructureSets) (hand : Hand) (frame : FrameHand) (c : Content) (d : DriverContent)
    → IsFramedNow base member recent descs parts hand frame c d → reads_alone (driver_row (parts_of c d)) ≡ true → FramedNext base member recent descs parts hand frame c d
