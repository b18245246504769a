-- Laws of isochronous descriptors, from their acceptance to their lend (EHCI 1.0, 3.3, 3.4, 4.6, 4.7 and 4.12.3).
--     HasSlots s           the slots of a command fit the fields of a descriptor
--     AcceptedAwaitLend    once they were accepted, they are written; nothing of them is lent yet
--     FramesAwaitLend      they get their frames, which are written nowhere
--     WrittenStay          the controller leaves them
use Rattle.std.specs.Prelude.{◌≡◌, ℕ, ◌<◌, ◌≤◌, false, length}
use Rattle.usb_base.specs.declared.endpoints.EpDesc.{EpDesc}
use Rattle.word_mem.specs.Memory.{Mem, IsShaped, word_at, reaches}
use Rattle.mem_runs.specs.Book.{holding, Stands}
use Rattle.drv_periodic_table.specs.Descriptors.{slot_limit}
use Rattle.drv_table.specs.declared.content.Slots.{Slots}
use Rattle.drv_table.specs.declared.rows.DriverRow.TheVariants as rows
use Rattle.drv_table.specs.DriverContent.{DriverContent}
use Rattle.drv_table.specs.Parts.{Parts}
use Rattle.drv_table.specs.Rows.{after_driver_row}
use Rattle.drv_table.specs.Accepting.{Offered}
use Rattle.claims_driver.specs.Owners.{views_of}
use Rattle.law_driver.specs.run_owners.Accepts.{Describes}
use Rattle.claims_driver.specs.Leaving.{HasOwners}
use Rattle.claims_driver.specs.LentRuns.{AreLent}
use Rattle.law_structures.specs.lent_structures.Structures.{StructureSets}
use Rattle.law_descriptors.specs.Described.{AreDescribed}
use Rattle.law_descriptors.specs.Written.{HasFields, DescriptorsAwaitLend}

pub record HasSlots (s : Slots) : Type 0 where
  pub few : s.slot ≤ slot_limit s.split
  pub smask : s.smask < 256
  pub cmask : s.cmask < 256

abbrev pub AcceptedAwaitLend : Type 0
AcceptedAwaitLend = (d : DriverContent) (m : Mem) (o : Offered) (why : Describes d m o) → HasFields why.endpoint.desc → HasSlots why.slots
    → HasOwners d → AreLent d → Stands (holding d.book m) → IsShaped m
    → DescriptorsAwaitLend o.driver o.memory (length d.transfers) why.endpoint.desc

abbrev pub FramesAwaitLend : Type 0
FramesAwaitLend = (p : Parts) (t : ℕ) (x : EpDesc) → DescriptorsAwaitLend p.driver p.memory t x → p.driver.made ≡ 0
    → DescriptorsAwaitLend (after_driver_row rows.Frames p).driver (after_driver_row rows.Frames p).memory t x

abbrev pub WrittenStay : Type 0
WrittenStay = (d : DriverContent) (m new : Mem) (t : ℕ) (x : EpDesc) → DescriptorsAwaitLend d m t x → Stands (holding d.book m)
    → ((at : ℕ) → reaches m at ≡ false → word_at new at ≡ word_at m at) → DescriptorsAwaitLend d new t x

-- what was lent before is described as before
abbrev pub FramesDescribe : Type 0
FramesDescribe = (p : Parts) (descs : StructureSets) → AreDescribed (views_of p.driver) descs → AreDescribed (views_of (after_driver_row rows.Frames p).driver) descs
