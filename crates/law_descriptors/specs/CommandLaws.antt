-- Laws of a command with isochronous descriptors beside a ring and the frames (EHCI 1.0, 4.6 to 4.8, 4.10 and 4.12.3).
use Rattle.std.specs.Prelude.{◌≡◌, ℕ, Bool, true, false, Option, Some}
use Rattle.usb_base.specs.declared.endpoints.EpDesc.{EpDesc}
use Rattle.word_mem.specs.Memory.{Mem, IsShaped}
use Rattle.mem_runs.specs.Book.{holding, Stands}
use Rattle.drv_table.specs.declared.rows.DriverRow.{DriverRow}
use Rattle.drv_table.specs.declared.rows.DriverRow.TheVariants as rows
use Rattle.drv_table.specs.DriverContent.{DriverContent}
use Rattle.drv_table.specs.Parts.{Parts}
use Rattle.drv_table.specs.Rows.{after_driver_row}
use Rattle.drv_table.specs.Accepting.{Offered}
use Rattle.claims_driver.specs.Owners.{TransferRuns, views_of}
use Rattle.law_driver.specs.run_owners.Accepts.{Describes, Accepts}
use Rattle.claims_driver.specs.Leaving.{HasOwners}
use Rattle.claims_driver.specs.LentRuns.{begins_in}
use Rattle.hc_core.specs.Controller.{Content}
use Rattle.law_structures.specs.lent_structures.Structures.{StructureSets}
use Rattle.law_structures.specs.lent_structures.Changes.{Leaves}
use Rattle.law_ring.specs.Hand.{Hand}
use Rattle.claims_base.specs.Controller.{Base}
use Rattle.law_frames.specs.Met.{Kind}
use Rattle.law_frames.specs.FrameHand.{FrameHand}
use Rattle.law_controller.specs.frame_control.Both.{RunsBoth}
use Rattle.law_descriptors.specs.Described.{AreDescribed, AreHeld}
use Rattle.law_descriptors.specs.Both.{both}
use Rattle.law_descriptors.specs.Lent.{after_lend, descs_after, IsLending}
use Rattle.law_descriptors.specs.Told.{IsToldBy, with_memory, as_parts}

-- ---- it is accepted

-- its runs are taken and written: what was Lent stays so, with its words
abbrev pub DescribesLeaves : Type 0
DescribesLeaves = (d : DriverContent) (m : Mem) (o : Offered) → Describes d m o → Stands (holding d.book m) → IsShaped m → Leaves m o.memory

-- nothing more is lent yet
abbrev pub DescribesTold : Type 0
DescribesTold = (d : DriverContent) (m : Mem) (o : Offered) (descs parts : StructureSets) → Describes d m o → Stands (holding d.book m)
    → IsToldBy (views_of d) descs parts → IsToldBy (views_of o.driver) descs parts

-- ---- it gets its frames

abbrev pub FramesTold : Type 0
FramesTold = (p : Parts) (descs parts : StructureSets) → IsToldBy (views_of p.driver) descs parts → IsToldBy (views_of (after_driver_row rows.Frames p).driver) descs parts

-- ---- it is lent

abbrev pub LendTold : Type 0
LendTold = (p : Parts) (t : ℕ) (x : EpDesc) (descs parts : StructureSets) → IsLending p t x → AreHeld p.memory descs
    → IsToldBy (views_of p.driver) descs parts → IsToldBy (views_of (after_lend p).driver) (descs_after p t x descs) parts

-- the ring and the frames go on, and nothing more is met yet
abbrev pub LendRunsBoth : Type 0
LendRunsBoth = (base : Base) (member : ℕ → Bool) (met : ℕ → Option Kind) (descs parts : StructureSets) (hand : Hand) (frame : FrameHand) (c : Content) (d : DriverContent) (t : ℕ) (x : EpDesc)
    → IsLending (as_parts c d) t x → IsToldBy (views_of d) descs parts
    → HasOwners (after_lend (as_parts c d)).driver → Stands (holding (after_lend (as_parts c d)).driver.book (after_lend (as_parts c d)).memory)
    → RunsBoth base member met (both descs parts) hand frame c
    → RunsBoth base member met (both (descs_after (as_parts c d) t x descs) parts) hand frame (with_memory c (after_lend (as_parts c d)).memory)

-- ---- other commands and rows

-- the row takes no run, and lends and gives back none
abbrev pub keeps_runs : DriverRow → Bool
keeps_runs (rows.Store b at v) = true
keeps_runs (rows.Mend w) = true
keeps_runs rows.Frames = true
keeps_runs (rows.Unlink t) = true
keeps_runs rows.ClearAdvance = true
keeps_runs rows.RingBell = true
keeps_runs (rows.ReadStatus heard) = true
keeps_runs (rows.ReadFrame n) = true
keeps_runs (rows.Harvest e t found) = true
keeps_runs rows.Rest = true
keeps_runs _ = false

-- it leaves what the driver has
abbrev pub RowsTold : Type 0
RowsTold = (p : Parts) (descs parts : StructureSets) (row : DriverRow) → keeps_runs row ≡ true
    → IsToldBy (views_of p.driver) descs parts → IsToldBy (views_of (after_driver_row row p).driver) descs parts

-- no command lends or gives back a descriptor
abbrev pub CommandsDescribe : Type 0
CommandsDescribe = (d : DriverContent) (m : Mem) (o : Offered) (descs : StructureSets) → Accepts d m o → Stands (holding d.book m)
    → AreDescribed (views_of d) descs → AreDescribed (views_of o.driver) descs

-- where runs are lent that are no descriptor's
abbrev pub QueueLendDescribes : Type 0
QueueLendDescribes = (p : Parts) (descs : StructureSets) → Stands (holding p.driver.book p.memory) → IsShaped p.memory
    → ((t : ℕ) (y : TransferRuns) → (views_of p.driver).transfer t ≡ Some y → y.isochronous ≡ true → y.released ≡ false → begins_in y.first p.driver.book.taken ≡ false)
    → AreDescribed (views_of p.driver) descs → AreDescribed (views_of (after_driver_row rows.Lend p).driver) descs
