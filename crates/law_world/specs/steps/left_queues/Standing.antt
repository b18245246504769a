-- What stands of a driver's queues while endpoints leave the ring (EHCI 1.0, 4.8.2 and 4.10): a step of a leave changes no structure, and once Async Advance
-- was cleared the walk doesn't meet those any more that had left when the doorbell was rung. Their blocks are then given back.
--     IdleTailsStand ..            each queue that the walk may meet has its front, no further than the inactive qTD at its end
--     AllStand ..                  this, and all that is told of the driver's queues and of their fronts
--     met_streams streams narrow   the streams of those queue heads that may still be met
--     AsBeforeStands, ClearStands, ClearedUnmet, ClearedIsNoHead, EndpointReleaseStands     the laws
use Rattle.std.specs.Prelude.{◌≡◌, ℕ, ◌*◌, Bool, false, ◌&&◌, List, slice_get, Some, None}
use Rattle.drv_table.specs.declared.content.Endpoint.{Endpoint}
use Rattle.drv_table.specs.declared.rows.DriverRow.TheVariants as rows
use Rattle.drv_table.specs.DriverContent.{DriverContent}
use Rattle.drv_table.specs.Parts.{Parts}
use Rattle.drv_table.specs.Rows.{after_driver_row}
use Rattle.claims_driver.specs.Leaving.{HasOwners}
use Rattle.law_driver.specs.chained_transfers.AsynchronousTurns.{AsynchronousTakesTurns}
use Rattle.law_structures.specs.lent_structures.Structures.{StructureSets}
use Rattle.law_ring.specs.Told.{Endpoint as Told}
use Rattle.law_driver_ring.specs.fed_queues.Places.{IsMet, HasHead, AreMet}
use Rattle.law_queues.specs.fed_lends.Commands.{QueuesStand}
use Rattle.law_queues.specs.released_queues.Fronts.{FrontsStand}
use Rattle.law_queues.specs.standing_fronts.Reaching.{Reaches}
use Rattle.law_queues.specs.reached_rings.Reaching.{is_reached}
use Rattle.law_world.specs.steps.endpoint_releases.Released.{without_queue, IsToLeave, endpoint_row}
use Rattle.law_queues.specs.leaving_drivers.Before.{IsAsBefore, NearSame}

-- while no transfer is being published
abbrev pub IdleTailsStand : DriverContent → StructureSets → (ℕ → ℕ → ℕ) → (ℕ → List ℕ) → Type 0
IdleTailsStand d parts order out =
    (e : ℕ) (x : Endpoint) → slice_get d.endpoints e ≡ Some x → IsMet d e x
    → Reaches d (parts (32 * x.queue)) (order (32 * x.queue)) (out (32 * x.queue)) e x (32 * x.dummy)

pub record AllStand (d : DriverContent) (member streams : ℕ → Bool) (ends : ℕ → Told) (parts : StructureSets) (order : ℕ → ℕ → ℕ) (out : ℕ → List ℕ) : Type 0 where
  pub queues : QueuesStand d member streams ends parts order out
  pub fronts : FrontsStand d parts order out
  pub tails : IdleTailsStand d parts order out

-- ---- the laws

-- an accepted cancel, the store that unlinks an endpoint, the doorbell and its status, and a frame index that is read
abbrev pub AsBeforeStands : Type 0
AsBeforeStands = (d f : DriverContent) (member streams : ℕ → Bool) (ends : ℕ → Told) (parts : StructureSets) (order : ℕ → ℕ → ℕ) (out : ℕ → List ℕ)
    → IsAsBefore d f → NearSame d f → AllStand d member streams ends parts order out → AllStand f member streams ends parts order out

abbrev pub met_streams : (ℕ → Bool) → (ℕ → Bool) → ℕ → Bool
met_streams streams narrow n = streams n && narrow n

-- none is rung any more, so it is the same whether the doorbell is answered
abbrev pub ClearStands : Type 0
ClearStands = (p : Parts) (member narrow streams : ℕ → Bool) (ends : ℕ → Told) (parts : StructureSets) (order : ℕ → ℕ → ℕ) (out : ℕ → List ℕ) (rings : Bool)
    → p.driver.command ≡ None → HasOwners p.driver → AsynchronousTakesTurns p.driver → ((n : ℕ) → narrow n ≡ is_reached (after_driver_row rows.ClearAdvance p).driver rings n)
    → AllStand p.driver member streams ends parts order out
    → AllStand (after_driver_row rows.ClearAdvance p).driver narrow (met_streams streams narrow) ends parts order out

-- the walk doesn't meet an endpoint any more that is to be given back
abbrev pub ClearedUnmet : Type 0
ClearedUnmet = (d : DriverContent) (member : ℕ → Bool) (i e : ℕ) (x : Endpoint) → HasOwners d → AsynchronousTakesTurns d → AreMet d member
    → slice_get d.cleared i ≡ Some e → slice_get d.endpoints e ≡ Some x → member (32 * x.queue) ≡ false

-- .. so none that is met has its queue head there, with a stream or without
abbrev pub ClearedIsNoHead : Type 0
ClearedIsNoHead = (d : DriverContent) (i e : ℕ) (x : Endpoint) → HasOwners d → AsynchronousTakesTurns d
    → slice_get d.cleared i ≡ Some e → slice_get d.endpoints e ≡ Some x → HasHead d (32 * x.queue) → ⊥

-- nothing is told of its queue any more, and all of each other one
abbrev pub EndpointReleaseStands : Type 0
EndpointReleaseStands = (p : Parts) (e : ℕ) (x : Endpoint) (member streams : ℕ → Bool) (ends : ℕ → Told) (parts : StructureSets) (order : ℕ → ℕ → ℕ) (out : ℕ → List ℕ)
    → p.driver.command ≡ None → HasOwners p.driver → AsynchronousTakesTurns p.driver → IsToLeave p.driver e x → AllStand p.driver member streams ends parts order out
    → AllStand (after_driver_row (endpoint_row e) p).driver member streams ends (without_queue parts (32 * x.queue)) order out
