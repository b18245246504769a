-- Laws of accepted commands over a ring that a driver drives (EHCI 1.0, 4.8 and 4.10): the ring is as it was, and the inventory is that of the
-- new content, of which nothing more is lent yet.
use Rattle.std.specs.Prelude.{ℕ, Bool}
use Rattle.word_mem.specs.Memory.{Mem}
use Rattle.op_registers.specs.RegisterFile.{RegisterFile}
use Rattle.async_walk.specs.Walk.{Walk}
use Rattle.async_walk.specs.Rows.{place}
use Rattle.mem_runs.specs.Book.{holding, Stands}
use Rattle.drv_table.specs.DriverContent.{DriverContent}
use Rattle.drv_table.specs.Accepting.{Offered}
use Rattle.law_driver.specs.run_owners.Accepts.{Opens, Transfers, Cancels}
use Rattle.claims_driver.specs.Leaving.{HasOwners}
use Rattle.law_structures.specs.lent_structures.Structures.{StructureSets}
use Rattle.law_ring.specs.Hand.{Hand}
use Rattle.claims_base.specs.Controller.{Base}
use Rattle.law_driver_ring.specs.Driven.{DrivesRing}

-- an endpoint of the ring is opened
abbrev pub OpenDrives : Type 0
OpenDrives = (base : Base) (member : ℕ → Bool) (parts : StructureSets) (hand : Hand) (w : Walk) (r : RegisterFile) (m : Mem) (d : DriverContent) (o : Offered)
    → Opens d m o → HasOwners d → Stands (holding d.book m) → DrivesRing base member parts hand (place w r m) d
    → DrivesRing base member parts hand (place w r o.memory) o.driver

-- a transfer comes; what it sends is written in buffers of its own
abbrev pub TransferDrives : Type 0
TransferDrives = (base : Base) (member : ℕ → Bool) (parts : StructureSets) (hand : Hand) (w : Walk) (r : RegisterFile) (m : Mem) (d : DriverContent) (o : Offered)
    → Transfers d m o → HasOwners d → Stands (holding d.book m) → DrivesRing base member parts hand (place w r m) d
    → DrivesRing base member parts hand (place w r o.memory) o.driver

-- an endpoint of the ring is cancelled
abbrev pub CancelDrives : Type 0
CancelDrives = (base : Base) (member : ℕ → Bool) (parts : StructureSets) (hand : Hand) (w : Walk) (r : RegisterFile) (m : Mem) (d : DriverContent) (o : Offered)
    → Cancels d m o → DrivesRing base member parts hand (place w r m) d → DrivesRing base member parts hand (place w r o.memory) o.driver
