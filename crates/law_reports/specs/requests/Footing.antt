-- What requests stand on in a world (EHCI 1.0, 3.5, 4.8 and 4.10; USB 2.0, 5.5): its driver has its blocks, its queues take turns and stand in memory, and the walk of
-- the ring has at most one of them in hand. Each world of bulk and control endpoints has this.
--     IsHeadNamed d own          this is the address and the number of an endpoint that is met
--     IsFooting member x s w     the world is so
use Rattle.std.specs.Prelude.{◌≡◌, ◌⊎◌, ℕ, ◌*◌, ◌≤◌, Bool, true, false, slice_get, Some}
use Rattle.mem_runs.specs.Book.{holding, Stands}
use Rattle.drv_table.specs.declared.content.Endpoint.{Endpoint}
use Rattle.drv_table.specs.declared.content.Transfer.{Transfer}
use Rattle.drv_table.specs.DriverContent.{DriverContent}
use Rattle.drv_table.specs.Harvests.{note_at}
use Rattle.drv_table.specs.Words.{is_control}
use Rattle.claims_driver.specs.Owners.{views_of}
use Rattle.claims_driver.specs.Leaving.{HasOwners}
use Rattle.law_driver.specs.chained_transfers.AsynchronousTurns.{AsynchronousTakesTurns}
use Rattle.law_driver_ring.specs.Inventory.{sorts_of, IsDriven}
use Rattle.law_driver_ring.specs.Extents.{AreInRuns}
use Rattle.law_descriptors.specs.queue_events.Events.{PartsStand}
use Rattle.law_queues.specs.released_queues.Fronts.{FrontsStand}
use Rattle.law_driver_ring.specs.fed_queues.Places.{IsMet}
use Rattle.law_driver_ring.specs.told_harvests.Held.{told_of}
use Rattle.law_queues.specs.fed_lends.Commands.{QueuesStand}
use Rattle.law_queues.specs.harvest_laws.Holds.{IsToCome}
use Rattle.law_structures.specs.lent_structures.Structures.{Tells}
use Rattle.law_structures.specs.lent_structures.Sound.{IsMember}
use Rattle.law_ring.specs.Ring.{IsInHand}
use Rattle.law_ring.specs.Told.{HasEndpoint, Endpoint as Characteristics}
use Rattle.bus_world.specs.World.{World}
use Rattle.law_world.specs.steps.Streaming.{Streams, Standing}
use Rattle.law_world.specs.steps.control_queues.Controls.{ControlsStand}

pub record IsHeadNamed (d : DriverContent) (own : Characteristics) : Type 0 where
  pub number : ℕ
  pub endpoint : Endpoint
  pub here : slice_get d.endpoints number ≡ Some endpoint
  pub met : IsMet d number endpoint
  pub address : own.addr ≡ endpoint.desc.name.addr
  pub ep : own.ep ≡ endpoint.desc.name.num

pub record IsFooting (member : ℕ → Bool) (x : Streams) (s : Standing) (w : World) : Type 0 where
  pub owners : HasOwners w.driver
  pub stands : Stands (holding w.driver.book w.memory)
  pub turns : AsynchronousTakesTurns w.driver
  pub queues : QueuesStand w.driver member x.streams x.endpoint s.parts s.order s.out
  pub controls : ControlsStand w.driver s.parts s.order s.out
  pub driven : IsDriven (views_of w.driver) (sorts_of s.parts)
  pub in_runs : AreInRuns (views_of w.driver) s.parts
  pub fronts : FrontsStand w.driver s.parts s.order s.out
  pub sound : PartsStand w.driver s.parts
  pub tells : Tells w.memory s.parts
  pub members : (e : ℕ) (y : Endpoint) → slice_get w.driver.endpoints e ≡ Some y → is_control y.desc.kind ≡ true → IsMet w.driver e y
      → IsMember member (32 * y.queue) (s.parts (32 * y.queue))
  pub in_hand : IsInHand member s.parts w.control.walk.reply s.hand
  -- what is noted of transfers: no more is told of one than was asked for, and nothing is read of one that isn't the next of its endpoint
  pub within : (t : ℕ) (y : Transfer) → slice_get w.driver.transfers t ≡ Some y → y.released ≡ false
      → told_of (note_at w.driver.notes) y.first y.qtds ≤ y.most
  pub to_come : (t : ℕ) (y : Transfer) → slice_get w.driver.transfers t ≡ Some y → y.reported ≡ false → y.released ≡ false
      → ((z : Endpoint) → slice_get w.driver.endpoints y.endpoint ≡ Some z → z.next ≡ Some t → ⊥) → IsToCome (note_at w.driver.notes) y
  -- another endpoint with the name of a control endpoint is that one
  pub apart : (e f : ℕ) (z y : Endpoint) → slice_get w.driver.endpoints e ≡ Some z → is_control z.desc.kind ≡ true
      → slice_get w.driver.endpoints f ≡ Some y
      → y.desc.name.addr ≡ z.desc.name.addr → y.desc.name.num ≡ z.desc.name.num → e ≡ f
  -- the head of the ring is no device's (EHCI 1.0, 3.6.2)
  pub named : (n : ℕ) (own : Characteristics) → member n ≡ true → HasEndpoint s.parts n own → (own.addr ≡ 0) ⊎ IsHeadNamed w.driver own
