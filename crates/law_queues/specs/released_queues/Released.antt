-- The blocks of a transfer that was harvested are given back, while the controller walks the ring (EHCI 1.0, 4.10): what the row leaves of a driver
-- whose endpoints are those of the asynchronous schedule.
--     IsReturning d t y x        transfer t is y, the first that is to be given back, of endpoint x, and no command is unfinished
--     ReleaseStands ..           what is known of the driver and its queues
--     IsReleased ..              what the row leaves of them
--     ReleaseFeeds, ReleaseKeepsMet   the laws
use Rattle.std.specs.Prelude.{◌≡◌, ℕ, ◌*◌, Bool, true, false, List, slice_get, Some, None}
use Rattle.async_walk.specs.Walk.{Walk}
use Rattle.async_walk.specs.Rows.{place}
use Rattle.mem_runs.specs.Book.{holding, Stands}
use Rattle.drv_table.specs.declared.content.Endpoint.{Endpoint}
use Rattle.drv_table.specs.declared.content.Transfer.{Transfer}
use Rattle.drv_table.specs.DriverContent.{DriverContent}
use Rattle.drv_table.specs.Parts.{Parts as DriverParts}
use Rattle.drv_table.specs.Rows.{after_driver_row}
use Rattle.claims_driver.specs.Owners.{views_of}
use Rattle.claims_driver.specs.Leaving.{HasOwners}
use Rattle.law_driver.specs.chained_transfers.Asynchronous.{OnlyAsynchronous}
use Rattle.law_driver.specs.chained_transfers.Chains.{AreChained}
use Rattle.law_driver.specs.chained_transfers.Turns.{AreInTurn}
use Rattle.law_structures.specs.lent_structures.Structures.{StructureSets}
use Rattle.law_ring.specs.Hand.{Hand}
use Rattle.claims_base.specs.Controller.{Base}
use Rattle.law_ring.specs.Fewer.{without_those}
use Rattle.law_ring.specs.Told.{Endpoint as Told}
use Rattle.law_ring.specs.Front.{LinksRise}
use Rattle.law_controller.specs.controlled_streams.Returned.{staying_of, KeepsBuffers, GoUntold}
use Rattle.law_driver_ring.specs.Driven.{DrivesRing}
use Rattle.law_driver_ring.specs.Extents.{AreInRuns}
use Rattle.law_driver_ring.specs.Released.{goes_of, release_row}
use Rattle.law_driver_ring.specs.fed_queues.Fed.{AreFed}
use Rattle.law_driver_ring.specs.fed_queues.Places.{AreMet, HaveStreams, AreLast, AreStillOut, IsThere, IsMet}
use Rattle.law_queues.specs.released_queues.Fronts.{FrontsStand}
use Rattle.law_driver.specs.endpoint_lives.Lives.{may_meet}

pub record IsReturning (d : DriverContent) (t : ℕ) (y : Transfer) (x : Endpoint) : Type 0 where
  pub free : d.command ≡ None
  pub first : slice_get d.harvested 0 ≡ Some t
  pub here : slice_get d.transfers t ≡ Some y
  pub held : y.released ≡ false
  pub reported : y.reported ≡ true
  pub endpoint : slice_get d.endpoints y.endpoint ≡ Some x
  -- it isn't one that has left
  pub near : may_meet d y.endpoint x ≡ true

-- what the driver's content, memory and the walk are, beside its streams
pub record ReleaseStands (base : Base) (member : ℕ → Bool) (parts : StructureSets) (hand : Hand) (w : Walk) (p : DriverParts) (order : ℕ → ℕ → ℕ) (out : ℕ → List ℕ) : Type 0 where
  pub drives : DrivesRing base member parts hand (place w p.registers p.memory) p.driver
  pub owners : HasOwners p.driver
  pub stands : Stands (holding p.driver.book p.memory)
  pub in_runs : AreInRuns (views_of p.driver) parts
  pub asynchronous : OnlyAsynchronous p.driver
  pub chained : AreChained (views_of p.driver)
  pub turns : AreInTurn p.driver
  pub fed : AreFed p.driver parts
  pub last : AreLast p.driver parts order
  pub still_out : AreStillOut p.driver out
  pub fronts : FrontsStand p.driver parts order out
  -- links lead to later qTDs
  pub rise : (e : ℕ) (x : Endpoint) → slice_get p.driver.endpoints e ≡ Some x → IsThere p.driver x → LinksRise (order (32 * x.queue)) (parts (32 * x.queue))
  pub met : (e : ℕ) (x : Endpoint) → slice_get p.driver.endpoints e ≡ Some x → IsMet p.driver e x → member (32 * x.queue) ≡ true

-- what the row leaves; pipes and reports stay by `goes`, `buffers` and `untold`
pub record IsReleased (base : Base) (member : ℕ → Bool) (parts : StructureSets) (hand : Hand) (w : Walk) (p : DriverParts) (order : ℕ → ℕ → ℕ) (out : ℕ → List ℕ) (t n : ℕ)
    (goes : ℕ → Bool) : Type 0 where
  pub drives : DrivesRing base member (without_those parts n goes) hand
      (place w (after_driver_row (release_row t) p).registers (after_driver_row (release_row t) p).memory) (after_driver_row (release_row t) p).driver
  pub in_runs : AreInRuns (views_of (after_driver_row (release_row t) p).driver) (without_those parts n goes)
  pub fed : AreFed (after_driver_row (release_row t) p).driver (without_those parts n goes)
  pub last : AreLast (after_driver_row (release_row t) p).driver (without_those parts n goes) order
  pub still_out : AreStillOut (after_driver_row (release_row t) p).driver (staying_of n goes out)
  pub fronts : FrontsStand (after_driver_row (release_row t) p).driver (without_those parts n goes) order (staying_of n goes out)
  pub head : goes n ≡ false
  pub buffers : KeepsBuffers goes (parts n)
  pub untold : GoUntold goes (out n) hand parts n

abbrev pub ReleaseFeeds : Type 0
ReleaseFeeds = (base : Base) (member : ℕ → Bool) (parts : StructureSets) (hand : Hand) (w : Walk) (p : DriverParts) (order : ℕ → ℕ → ℕ) (out : ℕ → List ℕ) (t : ℕ) (y : Transfer) (x : Endpoint)
    → ReleaseStands base member parts hand w p order out → IsReturning p.driver t y x
    → IsReleased base member parts hand w p order out t (32 * x.queue) (goes_of p.driver y)

-- the row changes no endpoint
abbrev pub ReleaseKeepsMet : Type 0
ReleaseKeepsMet = (p : DriverParts) (t : ℕ) (y : Transfer) (member streams : ℕ → Bool) (ends : ℕ → Told) → slice_get p.driver.transfers t ≡ Some y
    → AreMet p.driver member → HaveStreams p.driver streams ends
    → AreMet (after_driver_row (release_row t) p).driver member × HaveStreams (after_driver_row (release_row t) p).driver streams ends
