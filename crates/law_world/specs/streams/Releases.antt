-- The row by which an endpoint that has left the ring is given back, in a world whose endpoints are bulk and control ones (EHCI 1.0, 4.8.2 and 4.10): its queue head
-- isn't met any more, so no queue head less is met, and of each other one the same is told.
--     released s z             what stands after it: nothing is told of the queue of this endpoint
--     IsGivenBack ..           so it is in this world, and the frame list and buffers stay in their runs, fronts and tails where they were
--     EndpointReleaseFeeds     the law
use Rattle.std.specs.Prelude.{◌≡◌, ℕ, ◌*◌, Bool}
use Rattle.bus_wire.specs.Bus.{Fixed}
use Rattle.drv_table.specs.declared.content.Endpoint.{Endpoint}
use Rattle.drv_table.specs.declared.rows.DriverRow.TheVariants as rows
use Rattle.drv_table.specs.Rows.{driver_row}
use Rattle.claims_driver.specs.Owners.{views_of}
use Rattle.law_driver_ring.specs.Extents.{AreInRuns}
use Rattle.bus_world.specs.World.{World, driver_parts, driver_next}
use Rattle.law_world.specs.steps.Streaming.{Streams, Standing}
use Rattle.law_world.specs.steps.endpoint_releases.Released.{without_queue, HasLeaver}
use Rattle.law_world.specs.steps.left_queues.Standing.{IdleTailsStand}
use Rattle.law_world.specs.streams.Feeding.{IsFeeding}

abbrev pub released : Standing → Endpoint → Standing
released s z = record s { parts = without_queue s.parts (32 * z.queue) }

-- no command is unfinished, so the tail of each queue is the inactive qTD at its end
pub record IsGivenBack (fixed : Fixed) (member : ℕ → Bool) (x : Streams) (s : Standing) (e : ℕ) (w new : World) : Type 0 where
  pub leaver : HasLeaver w.driver e
  pub feeding : IsFeeding fixed member x (released s leaver.endpoint) new
  pub runs : AreInRuns (views_of new.driver) (released s leaver.endpoint).parts
  pub tails : IdleTailsStand new.driver (released s leaver.endpoint).parts s.order s.out

abbrev pub EndpointReleaseFeeds : Type 0
EndpointReleaseFeeds = (fixed : Fixed) (member : ℕ → Bool) (x : Streams) (s : Standing) (w : World) (e : ℕ) → driver_row (driver_parts w) ≡ rows.ReleaseEndpoint e
    → AreInRuns (views_of w.driver) s.parts → IdleTailsStand w.driver s.parts s.order s.out → IsFeeding fixed member x s w → IsGivenBack fixed member x s e w (driver_next w)
