-- What is told of the queue of an endpoint that left the ring (EHCI 1.0, 4.8.2 and 4.10): each event of the driver and of the controller
-- leaves what was moved of the requests that wait in it, until it is given back.
--     StaysTold s t n a          of the qTD at a of the queue head at n just the same is told
--     HasLeft d e x              endpoint e, which is x, is there, and a walk can't meet it any more
--     IsWaiting d e u y          transfer u of it waits, and isn't given back
--     IsBeside step n            no store mends the queue head at n, and it isn't given back
--     StepLeavesTold             the law of the driver's events
--     EventLeavesTold            .. and of the controller's
use Rattle.std.specs.Prelude.{◌≡◌, ◌≢◌, ℕ, ◌*◌, false, List, slice_get, Some}
use Rattle.bus_wire.specs.Bus.{Fixed}
use Rattle.bus_world.specs.World.{World, driver_next}
use Rattle.drv_table.specs.declared.content.Endpoint.{Endpoint}
use Rattle.drv_table.specs.declared.content.Transfer.{Transfer}
use Rattle.drv_table.specs.DriverContent.{DriverContent}
use Rattle.drv_table.specs.Harvests.{note_at}
use Rattle.law_driver.specs.endpoint_lives.Lives.{may_meet}
use Rattle.law_driver.specs.queued_drivers.Queued.{queued}
use Rattle.law_driver_ring.specs.fed_queues.Places.{IsThere}
use Rattle.law_driver_ring.specs.told_harvests.Held.{IsOneFrom}
use Rattle.law_ring.specs.Told.{Told}
use Rattle.law_world.specs.memory.Mixed.{Standing, IsMixedAt}
use Rattle.law_world.specs.memory.Steps.{QueueStep, mends, goes, IsMixedControlled, standing_then}
use Rattle.law_reports.specs.lines.Lined.{in_hand, Lines, IsTelling}
use Rattle.law_reports.specs.lines.TellingLaws.{EventOfQueues}

abbrev pub StaysTold : Standing → Standing → ℕ → ℕ → Type 0
StaysTold s t n a = (xs : List ℕ) → Told (in_hand s) s.parts n a xs → Told (in_hand t) t.parts n a xs

pub record HasLeft (d : DriverContent) (e : ℕ) (x : Endpoint) : Type 0 where
  pub here : slice_get d.endpoints e ≡ Some x
  pub there : IsThere d x
  pub unmet : may_meet d e x ≡ false

pub record IsWaiting (d : DriverContent) (e u : ℕ) (y : Transfer) : Type 0 where
  pub here : slice_get d.transfers u ≡ Some y
  pub endpoint : y.endpoint ≡ e
  pub reported : y.reported ≡ false
  pub released : y.released ≡ false

abbrev pub IsBeside : {s : Standing} {w new : World} {t : Standing} → QueueStep s w new t → ℕ → Type 0
IsBeside (mends k is) n = n ≢ 32 * k.stalled.queue
IsBeside (goes e x d t back is) n = n ≢ 32 * x.queue
IsBeside _ n = Unit {0}

abbrev pub StepLeavesTold : Type 0
StepLeavesTold = (s : Standing) (m : Lines) (w : World) (t : Standing) (step : QueueStep s w (driver_next w) t) → IsMixedAt s w
    → IsTelling s m w → (e u b : ℕ) (x : Endpoint) (y : Transfer) → HasLeft (queued w.driver) e x → IsWaiting (queued w.driver) e u y
    → IsOneFrom (note_at w.driver.notes) y.first y.qtds b → IsBeside step (32 * x.queue) → StaysTold s t (32 * x.queue) (32 * b)

abbrev pub EventLeavesTold : Type 0
EventLeavesTold = (fixed : Fixed) (s : Standing) (w : World) → IsMixedAt s w → (c : IsMixedControlled fixed s w)
    → EventOfQueues fixed s w c.event → (e a : ℕ) (x : Endpoint) → HasLeft (queued w.driver) e x
    → StaysTold s (standing_then s w c.event) (32 * x.queue) a
