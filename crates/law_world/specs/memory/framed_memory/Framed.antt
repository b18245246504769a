-- A driver and a controller over one memory, where the controller walks a ring and the frames (EHCI 1.0, 3, 4.6 to 4.10 and 4.12.3).
--     IsFramed base member met descs parts hand frame c d
--                             everything of the driver's content d is in place in the memory of the controller's content c, which runs over both; memory is
--                             told by exactly the structures that the driver has lent, of its queues by `parts` and of its descriptors by `descs`
--     FramedAfter ..          an event of the controller, and the same after it, with what the structures became then
--     ControllerKeepsFramed ..      the law
--     NewIsFramed             a driver that was just built and a new controller are so
use Rattle.std.specs.Prelude.{◌≡◌, ℕ, ◌%◌, ◌≤◌, Bool, List, Option, None}
use Rattle.usb_base.specs.declared.packets.Ask.{Ask}
use Rattle.usb_base.specs.declared.packets.Reply.{Reply}
use Rattle.hc_core.specs.Controller.{Content, content, new_control, microframe_row, HasRow}
use Rattle.law_controller.specs.aligned_copies.Aligned.{AreAligned}
use Rattle.drv_table.specs.declared.content.Reserve.{Reserve}
use Rattle.drv_table.specs.DriverContent.{DriverContent}
use Rattle.drv_table.specs.Opening.{opening}
use Rattle.claims_driver.specs.Owners.{views_of}
use Rattle.law_structures.specs.lent_structures.Structures.{StructureSets}
use Rattle.law_ring.specs.Hand.{Hand, Empty}
use Rattle.claims_base.specs.Controller.{Base, opening_base}
use Rattle.law_ring.specs.Effects.{AreBytesHeard}
use Rattle.law_driver_ring.specs.Inventory.{sorts_of, IsDriven}
use Rattle.law_driver_ring.specs.Driven.{IsOperating}
use Rattle.law_driver_ring.specs.PartOpened.{no_parts, opening_parts, is_head}
use Rattle.law_driver_ring.specs.Extents.{AreInRuns}
use Rattle.law_driver.specs.in_place.InPlace.{IsInPlace}
use Rattle.law_frame_list.specs.list_driver.Keeping.{KeepsItsList}
use Rattle.law_frames.specs.Met.{Kind}
use Rattle.law_frames.specs.FrameHand.{FrameHand, Nothing}
use Rattle.law_controller.specs.frame_control.Both.{RunsBoth, ControlsBoth}
use Rattle.law_descriptors.specs.Described.{AreDescribed}
use Rattle.law_descriptors.specs.Both.{both, descs_now, parts_now}

pub record IsFramed (base : Base) (member : ℕ → Bool) (met : ℕ → Option Kind) (descs parts : StructureSets) (hand : Hand) (frame : FrameHand) (c : Content) (d : DriverContent) : Type 0 where
  pub operating : IsOperating base
  pub start : base.periodic_list_base ≡ 0
  pub aligned : AreAligned c
  pub runs : RunsBoth base member met (both descs parts) hand frame c
  pub place : IsInPlace c.memory d
  pub list : KeepsItsList c.memory d
  pub driven : IsDriven (views_of d) (sorts_of parts)
  pub described : AreDescribed (views_of d) descs
  pub extents : AreInRuns (views_of d) parts

-- ---- an event of the controller

pub record FramedAfter {W : Type 0} (begins : W → ℕ → Bool → W → Type 0) (transacts : W → Ask → List ℕ → Reply → W → Type 0) (base : Base) (member : ℕ → Bool) (met : ℕ → Option Kind)
    (descs parts : StructureSets) (hand : Hand) (frame : FrameHand) (c : Content) (d : DriverContent) (wire after : W) (new : Content) : Type 0 where
  pub event : ControlsBoth begins transacts base member met (both descs parts) hand frame c.control wire after new
  pub framed : IsFramed base member met (descs_now descs event.now) (parts_now descs parts event.now) event.later event.frame_later new d

abbrev pub ControllerKeepsFramed : {W : Type 0} → (W → ℕ → Bool → W → Type 0) → (W → Ask → List ℕ → Reply → W → Type 0) → Type 0
ControllerKeepsFramed {W} begins transacts = (base : Base) (member : ℕ → Bool) (met : ℕ → Option Kind) (descs parts : StructureSets) (hand : Hand) (frame : FrameHand) (c : Content)
    (d : DriverContent) (wire : W) (new : Content) (after : W) → IsFramed base member met descs parts hand frame c d
    → AreBytesHeard transacts wire after → HasRow begins transacts (microframe_row c.registers c.control) c wire new after
    → FramedAfter begins transacts base member met descs parts hand frame c d wire after new

-- ---- the opening

-- nothing is met, and no descriptor is there
abbrev pub NewIsFramed : Type 0
NewIsFramed = (n : ℕ) (room : Reserve) → 2048 ≤ n → n ≤ 262144 → n % 1024 ≡ 0
    → IsFramed opening_base is_head (λ a. None) no_parts opening_parts Empty Nothing (content new_control (opening n room).registers (opening n room).memory) (opening n room).driver
