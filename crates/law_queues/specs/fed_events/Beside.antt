-- What an event of the controller leaves of a driver's queues (EHCI 1.0, 4.10).
--     FedStaysBeside, LastStaysBeside     the laws: the pieces of transfers are fed, and the ends of queues are last
use Rattle.std.specs.Prelude.{ℕ}
use Rattle.drv_table.specs.DriverContent.{DriverContent}
use Rattle.law_structures.specs.lent_structures.Structures.{StructureSets}
use Rattle.law_controller.specs.controlled_streams.Kept.{KeepsEach}
use Rattle.law_driver_ring.specs.fed_queues.Fed.{AreFed}
use Rattle.law_driver_ring.specs.fed_queues.Places.{AreLast}

abbrev pub FedStaysBeside : Type 0
FedStaysBeside = (d : DriverContent) (parts now : StructureSets) → KeepsEach parts now → AreFed d parts → AreFed d now

abbrev pub LastStaysBeside : Type 0
LastStaysBeside = (d : DriverContent) (parts now : StructureSets) (order : ℕ → ℕ → ℕ) → KeepsEach parts now → AreLast d parts order → AreLast d now order
