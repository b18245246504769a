-- What the controller leaves of a driver's frame list, and of all that it has lent (EHCI 1.0, 3.1, 3.3.1 and 4.6).
--     ListIsKept               its list stands on, and descriptors that are still to be linked lead on
--     WrittenElsewhere         the controller writes beside what the driver has to find again
--     ToldStays                what the driver has lent stays told
--     DescribedIsTold          a driver whose descriptors stand beside its queues is told
--     DescribedAreKept         what is kept of structures keeps each descriptor one
--     DriverStays m new d      what the driver has to find again stays, all of it is in place, and its frame list stands on
--     EventsLeaveDriver ..       so each event of the controller leaves it, which walks a ring and the frames
use Rattle.std.specs.Prelude.{◌≡◌, ℕ, Bool, List, Option}
use Rattle.usb_base.specs.declared.packets.Ask.{Ask}
use Rattle.usb_base.specs.declared.packets.Reply.{Reply}
use Rattle.word_mem.specs.Memory.{Mem}
use Rattle.hc_core.specs.Controller.{Content, microframe_row, HasRow}
use Rattle.law_controller.specs.aligned_copies.Aligned.{AreAligned}
use Rattle.drv_table.specs.DriverContent.{DriverContent}
use Rattle.law_structures.specs.lent_structures.Structures.{StructureSets}
use Rattle.law_ring.specs.Hand.{Hand}
use Rattle.claims_base.specs.Controller.{Base}
use Rattle.law_controller.specs.controlled_streams.Control.{FrameList}
use Rattle.law_driver_ring.specs.Inventory.{SameSorts}
use Rattle.law_driver.specs.in_place.InPlace.{IsInPlace}
use Rattle.law_driver.specs.in_place.Run.{IsElsewhere}
use Rattle.law_frame_list.specs.list_driver.Keeping.{KeepsItsList}
use Rattle.law_frames.specs.Met.{Kind}
use Rattle.law_frames.specs.FrameHand.{FrameHand}
use Rattle.law_controller.specs.frame_control.Both.{RunsBoth, ControlsBoth}
use Rattle.law_descriptors.specs.Both.{both, Keeps}
use Rattle.law_descriptors.specs.PartLaws.{IsDescribing}
use Rattle.law_descriptors.specs.frame_keeps.Kept.{KeepsParts}
use Rattle.law_descriptors.specs.frame_keeps.Leaving.{LeavesStructures, IsWithin}
use Rattle.law_descriptors.specs.list_beside.Links.{IsTold}

abbrev pub ListIsKept : Type 0
ListIsKept = (base : Base) (parts all : StructureSets) (m new : Mem) (d : DriverContent) → IsTold base parts all m d → LeavesStructures all m new → KeepsItsList m d → KeepsItsList new d

abbrev pub WrittenElsewhere : Type 0
WrittenElsewhere = (base : Base) (parts all : StructureSets) (m new : Mem) (d : DriverContent) → IsTold base parts all m d → LeavesStructures all m new → IsElsewhere d m new

-- `parts_now` are those of the frame list, the ring and queues among what is there then
abbrev pub ToldStays : Type 0
ToldStays = (base : Base) (parts all parts_now now : StructureSets) (m new : Mem) (d : DriverContent) → IsTold base parts all m d → LeavesStructures all m new → KeepsParts all now
    → SameSorts parts parts_now → IsWithin parts_now now → IsTold base parts_now now new d

-- ---- descriptors

abbrev pub DescribedIsTold : Type 0
DescribedIsTold = (base : Base) (parts descs : StructureSets) (m : Mem) (d : DriverContent) → IsInPlace m d → IsDescribing d descs parts → FrameList (both descs parts) base
    → base.periodic_list_base ≡ 0 → IsTold base parts (both descs parts) m d

abbrev pub DescribedAreKept : Type 0
DescribedAreKept = (parts now : StructureSets) → KeepsParts parts now → Keeps parts now

-- ---- an event

pub record DriverStays (m new : Mem) (d : DriverContent) : Type 0 where
  pub elsewhere : IsElsewhere d m new
  pub place : IsInPlace new d
  pub list : KeepsItsList m d → KeepsItsList new d

abbrev pub EventsLeaveDriver : {W : Type 0} → (W → ℕ → Bool → W → Type 0) → (W → Ask → List ℕ → Reply → W → Type 0) → Type 0
EventsLeaveDriver {W} begins transacts = (base : Base) (member : ℕ → Bool) (met : ℕ → Option Kind) (parts all : StructureSets) (hand : Hand) (frame : FrameHand) (c : Content)
    (d : DriverContent) (wire : W) (new : Content) (after : W) → RunsBoth base member met all hand frame c → IsTold base parts all c.memory d → AreAligned c
    → HasRow begins transacts (microframe_row c.registers c.control) c wire new after
    → ControlsBoth begins transacts base member met all hand frame c.control wire after new → DriverStays c.memory new.memory d
