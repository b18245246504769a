-- The blocks of a transfer that was harvested are given back, wherever its queue head stands: in the ring or in frames (EHCI 1.0, 3.5, 3.6, 4.6 and 4.10). Nothing
-- is said of the walks here, only of the driver's queues.
--     QueuesAreTold ..           what is known of the driver and its queues
--     ReleaseLeaves ..           what the row leaves of them, and that its blocks may go
--     ReleaseStays               the law, where the part of that queue head is sound
use Rattle.std.specs.Prelude.{◌≡◌, ℕ, ◌*◌, Bool, false, List, slice_get, Some}
use Rattle.qh_qtd.specs.declared.queue_head.Qh.{Qh}
use Rattle.drv_table.specs.declared.content.Endpoint.{Endpoint}
use Rattle.drv_table.specs.declared.content.Transfer.{Transfer}
use Rattle.drv_table.specs.Parts.{Parts as DriverParts}
use Rattle.drv_table.specs.Rows.{after_driver_row}
use Rattle.claims_driver.specs.Owners.{runs_of_endpoint, views_of}
use Rattle.claims_driver.specs.Leaving.{HasOwners}
use Rattle.law_driver.specs.chained_transfers.Asynchronous.{OnlyAsynchronous}
use Rattle.law_driver.specs.chained_transfers.Chains.{AreChained}
use Rattle.law_driver.specs.chained_transfers.Turns.{AreInTurn}
use Rattle.law_structures.specs.lent_structures.Structures.{QueueHead, StructureSets}
use Rattle.law_ring.specs.Hand.{Hand}
use Rattle.law_ring.specs.Fewer.{without_those, MayGo}
use Rattle.law_ring.specs.Front.{LinksRise}
use Rattle.law_frames.specs.Met.{IsQueuePart}
use Rattle.law_controller.specs.controlled_streams.Returned.{staying_of, KeepsBuffers, GoUntold}
use Rattle.law_driver_ring.specs.Inventory.{sorts_of, IsDriven}
use Rattle.law_driver_ring.specs.Extents.{AreInRuns}
use Rattle.law_driver_ring.specs.Released.{goes_of, IsToGo, release_row}
use Rattle.law_driver_ring.specs.fed_queues.Fed.{AreFed}
use Rattle.law_driver_ring.specs.fed_queues.Places.{AreLast, AreStillOut, IsThere}
use Rattle.law_queues.specs.released_queues.Fronts.{FrontsStand}
use Rattle.law_queues.specs.released_queues.Released.{IsReturning}

pub record QueuesAreTold (parts : StructureSets) (p : DriverParts) (order : ℕ → ℕ → ℕ) (out : ℕ → List ℕ) : Type 0 where
  pub driven : IsDriven (views_of p.driver) (sorts_of parts)
  pub owners : HasOwners p.driver
  pub in_runs : AreInRuns (views_of p.driver) parts
  pub asynchronous : OnlyAsynchronous p.driver
  pub chained : AreChained (views_of p.driver)
  pub turns : AreInTurn p.driver
  pub fed : AreFed p.driver parts
  pub last : AreLast p.driver parts order
  pub still_out : AreStillOut p.driver out
  pub fronts : FrontsStand p.driver parts order out
  -- links lead to later qTDs
  pub rise : (e : ℕ) (x : Endpoint) → slice_get p.driver.endpoints e ≡ Some x → IsThere p.driver x → LinksRise (order (32 * x.queue)) (parts (32 * x.queue))

-- n is the name of the queue head, `goes` has those of the transfer's structures
pub record ReleaseLeaves (parts : StructureSets) (p : DriverParts) (order : ℕ → ℕ → ℕ) (out : ℕ → List ℕ) (t : ℕ) (y : Transfer) (x : Endpoint) (n : ℕ) (goes : ℕ → Bool) : Type 0 where
  -- the premises of a law of the walks: they may go
  pub to_go : IsToGo p.driver t y (runs_of_endpoint x)
  pub may_go : (q : Qh) → parts n n ≡ Some (QueueHead q) → MayGo goes n (parts n) q
  pub driven : IsDriven (views_of (after_driver_row (release_row t) p).driver) (sorts_of (without_those parts n goes))
  pub in_runs : AreInRuns (views_of (after_driver_row (release_row t) p).driver) (without_those parts n goes)
  pub fed : AreFed (after_driver_row (release_row t) p).driver (without_those parts n goes)
  pub last : AreLast (after_driver_row (release_row t) p).driver (without_those parts n goes) order
  pub still_out : AreStillOut (after_driver_row (release_row t) p).driver (staying_of n goes out)
  pub fronts : FrontsStand (after_driver_row (release_row t) p).driver (without_those parts n goes) order (staying_of n goes out)
  pub rise : (e : ℕ) (z : Endpoint) → slice_get (after_driver_row (release_row t) p).driver.endpoints e ≡ Some z → IsThere (after_driver_row (release_row t) p).driver z
      → LinksRise (order (32 * z.queue)) (without_those parts n goes (32 * z.queue))
  -- of each queue head
  pub part : (m : ℕ) → IsQueuePart m (parts m) → IsQueuePart m (without_those parts n goes m)
  pub head : goes n ≡ false
  pub buffers : KeepsBuffers goes (parts n)
  pub untold : (hand : Hand) → GoUntold goes (out n) hand parts n

abbrev pub ReleaseStays : Type 0
ReleaseStays = (parts : StructureSets) (p : DriverParts) (order : ℕ → ℕ → ℕ) (out : ℕ → List ℕ) (t : ℕ) (y : Transfer) (x : Endpoint) → QueuesAreTold parts p order out
    → IsReturning p.driver t y x → IsQueuePart (32 * x.queue) (parts (32 * x.queue)) → ReleaseLeaves parts p order out t y x (32 * x.queue) (goes_of p.driver y)
