-- What a driver has beside what it has lent of isochronous descriptors, while such a command is accepted, gets its frames and is lent (EHCI 1.0, 3, 4.6 to 4.8
-- and 4.12).
--     IsToldBy v descs parts    memory has for the driver exactly these structures: of its queues, as far as they reach, and of its descriptors
--     with_memory c m           the controller's content over another memory
--     as_parts c d              what an event of the driver reads and changes, beside a controller
use Rattle.word_mem.specs.Memory.{Mem}
use Rattle.drv_table.specs.DriverContent.{DriverContent}
use Rattle.drv_table.specs.Parts.{Parts}
use Rattle.claims_driver.specs.Owners.{Views}
use Rattle.hc_core.specs.Controller.{Content}
use Rattle.law_structures.specs.lent_structures.Structures.{StructureSets}
use Rattle.law_driver_ring.specs.Inventory.{sorts_of, IsDriven}
use Rattle.law_driver_ring.specs.Extents.{AreInRuns}
use Rattle.law_descriptors.specs.Described.{AreDescribed}

pub record IsToldBy (v : Views) (descs parts : StructureSets) : Type 0 where
  pub driven : IsDriven v (sorts_of parts)
  pub extents : AreInRuns v parts
  pub described : AreDescribed v descs

abbrev pub with_memory : Content → Mem → Content
with_memory c m = record c { memory = m }

abbrev pub as_parts : Content → DriverContent → Parts
as_parts c d = record { driver = d; registers = c.registers; memory = c.memory }
