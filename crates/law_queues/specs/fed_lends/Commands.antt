-- Accepted commands leave what is fed (EHCI 1.0, 4.8 and 4.10): memory is told by the same structures, and the driver's content has an endpoint more, or a
-- transfer that is to be lent.
--     QueuesStand ..              all that fed_queues says of a driver's queues
--     OpenStands, AskedStands, RequestedStands     the laws, of an open, of a get or put and of a control endpoint's request
use Rattle.std.specs.Prelude.{ℕ, Bool, List}
use Rattle.word_mem.specs.Memory.{Mem, IsShaped}
use Rattle.mem_runs.specs.Book.{holding, Stands}
use Rattle.drv_table.specs.DriverContent.{DriverContent}
use Rattle.drv_table.specs.Accepting.{Offered}
use Rattle.law_driver.specs.run_owners.Accepts.{Opens}
use Rattle.claims_driver.specs.Leaving.{HasOwners}
use Rattle.claims_driver.specs.LentRuns.{AreLent}
use Rattle.law_structures.specs.lent_structures.Structures.{StructureSets}
use Rattle.law_ring.specs.Told.{Endpoint as Told}
use Rattle.law_driver.specs.chained_transfers.Accepted.{IsAsked}
use Rattle.law_driver.specs.chained_transfers.Asynchronous.{IsRequested}
use Rattle.law_driver.specs.chained_transfers.AsynchronousTurns.{AsynchronousTakesTurns}
use Rattle.law_driver_ring.specs.fed_queues.Fed.{AreFed}
use Rattle.law_driver_ring.specs.fed_queues.Places.{AreMet, HaveStreams, AreLast, AreStillOut}

pub record QueuesStand (d : DriverContent) (member streams : ℕ → Bool) (ends : ℕ → Told) (parts : StructureSets) (order : ℕ → ℕ → ℕ) (out : ℕ → List ℕ) : Type 0 where
  pub met : AreMet d member
  pub streams_are : HaveStreams d streams ends
  pub fed : AreFed d parts
  pub last : AreLast d parts order
  pub out_are : AreStillOut d out

abbrev pub OpenStands : Type 0
OpenStands = (d : DriverContent) (m : Mem) (o : Offered) (member streams : ℕ → Bool) (ends : ℕ → Told) (parts : StructureSets) (order : ℕ → ℕ → ℕ) (out : ℕ → List ℕ)
    → Opens d m o → Stands (holding d.book m) → IsShaped m → HasOwners d → HasOwners o.driver → AreLent d → AsynchronousTakesTurns d → QueuesStand d member streams ends parts order out
    → QueuesStand o.driver member streams ends parts order out

abbrev pub AskedStands : Type 0
AskedStands = (d : DriverContent) (m : Mem) (o : Offered) (member streams : ℕ → Bool) (ends : ℕ → Told) (parts : StructureSets) (order : ℕ → ℕ → ℕ) (out : ℕ → List ℕ)
    → IsAsked d m o → Stands (holding d.book m) → IsShaped m → Stands (holding o.driver.book o.memory) → IsShaped o.memory → HasOwners d → AreLent d → AsynchronousTakesTurns d
    → QueuesStand d member streams ends parts order out
    → QueuesStand o.driver member streams ends parts order out

abbrev pub RequestedStands : Type 0
RequestedStands = (d : DriverContent) (m : Mem) (o : Offered) (member streams : ℕ → Bool) (ends : ℕ → Told) (parts : StructureSets) (order : ℕ → ℕ → ℕ) (out : ℕ → List ℕ)
    → IsRequested d m o → Stands (holding d.book m) → IsShaped m → Stands (holding o.driver.book o.memory) → IsShaped o.memory → HasOwners d → AreLent d → AsynchronousTakesTurns d
    → QueuesStand d member streams ends parts order out
    → QueuesStand o.driver member streams ends parts order out
