-- What is known of a driver's queues, also of those of control endpoints that answered STALL (EHCI 1.0, 3.6.3, 4.10.2, 4.10.3; USB 2.0, 8.5.3.4).
--     ControlsStand d parts order out     links of each queue lead to later qTDs; its qTDs that are out stand in their order; where one of these was halted the
--                              walk goes no further; and what the driver has still to store is what halted queue heads are owed
use Rattle.std.specs.Prelude.{◌≡◌, ℕ, ◌*◌, List, slice_get, Some}
use Rattle.drv_table.specs.declared.content.Endpoint.{Endpoint}
use Rattle.drv_table.specs.DriverContent.{DriverContent}
use Rattle.law_structures.specs.lent_structures.Structures.{StructureSets}
use Rattle.law_ring.specs.Front.{LinksRise}
use Rattle.law_ring.specs.Halted.{HaltStops}
use Rattle.law_ring.specs.Order.{IsSorted}
use Rattle.law_driver_ring.specs.fed_queues.Places.{IsThere, IsMet}
use Rattle.law_queues.specs.mended_heads.Waiting.{MendsStand}

pub record ControlsStand (d : DriverContent) (parts : StructureSets) (order : ℕ → ℕ → ℕ) (out : ℕ → List ℕ) : Type 0 where
  pub rises : (e : ℕ) (x : Endpoint) → slice_get d.endpoints e ≡ Some x → IsThere d x → LinksRise (order (32 * x.queue)) (parts (32 * x.queue))
  pub sorted : (e : ℕ) (x : Endpoint) → slice_get d.endpoints e ≡ Some x → IsThere d x → IsSorted (order (32 * x.queue)) (out (32 * x.queue))
  -- .. where the walk may meet the queue head
  pub stops : (e : ℕ) (x : Endpoint) → slice_get d.endpoints e ≡ Some x → IsMet d e x → HaltStops (order (32 * x.queue)) (out (32 * x.queue)) (32 * x.queue) (parts (32 * x.queue))
  pub mends : MendsStand d parts out
