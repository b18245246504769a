-- What was unlinked, and is met until the next microframe begins (EHCI 1.0, 2.3.4, 4.6 and 4.7): no two readings of FRINDEX with different frame numbers came
-- since its last unlinking store, or the command that unlinks it isn't finished.
--     AreRecent d index recent     each of `recent` is so
--     DrivesFrames ..              the controller over a ring and the frames, with the structures of the driver's queues and of its descriptors, and what was
--                                  unlinked in this microframe
--     parts_of c d                 what a row of the driver reads and changes, over the controller's registers and memory
--     content_after row c d, driver_after row c d   the controller's content and the driver's once the row was made
use Rattle.std.specs.Prelude.{◌≡◌, ◌⊎◌, ℕ, Bool, Option, Some}
use Rattle.drv_table.specs.declared.rows.DriverRow.{DriverRow}
use Rattle.drv_table.specs.DriverContent.{DriverContent}
use Rattle.drv_table.specs.Parts.{Parts}
use Rattle.drv_table.specs.Rows.{after_driver_row}
use Rattle.claims_driver.specs.Owners.{views_of}
use Rattle.hc_core.specs.Controller.{Content}
use Rattle.law_structures.specs.lent_structures.Structures.{StructureSets}
use Rattle.law_ring.specs.Hand.{Hand}
use Rattle.claims_base.specs.Controller.{Base}
use Rattle.law_frames.specs.Met.{Kind}
use Rattle.law_frames.specs.FrameHand.{FrameHand}
use Rattle.law_controller.specs.frame_control.Both.{RunsBoth}
use Rattle.law_descriptors.specs.Described.{AreDescribed}
use Rattle.law_descriptors.specs.Both.{both}
use Rattle.law_descriptors.specs.Meeting.{met}
use Rattle.law_descriptors.specs.Removed.{IsRemovedSince, IsUnchainedNow}

abbrev pub AreRecent : DriverContent → ℕ → (ℕ → Option Kind) → Type 0
AreRecent d index recent =
    (n : ℕ) (kind : Kind) → recent n ≡ Some kind
    → IsRemovedSince d.endpoints d.transfers d.periodic.removals index n ⊎ IsUnchainedNow d.endpoints d.transfers d.command n

pub record DrivesFrames (base : Base) (member : ℕ → Bool) (recent : ℕ → Option Kind) (descs parts : StructureSets) (hand : Hand) (frame : FrameHand) (c : Content)
    (d : DriverContent) : Type 0 where
  pub runs : RunsBoth base member (met d recent) (both descs parts) hand frame c
  pub recent_are : AreRecent d c.registers.frame_index recent
  pub described : AreDescribed (views_of d) descs

-- ---- a row of the driver

abbrev pub parts_of : Content → DriverContent → Parts
parts_of c d = record { driver = d; registers = c.registers; memory = c.memory }

abbrev pub driver_after : DriverRow → Content → DriverContent → DriverContent
driver_after row c d = (after_driver_row row (parts_of c d)).driver

abbrev pub content_after : DriverRow → Content → DriverContent → Content
content_after row c d = record c { registers = (after_driver_row row (parts_of c d)).registers; memory = (after_driver_row row (parts_of c d)).memory }
