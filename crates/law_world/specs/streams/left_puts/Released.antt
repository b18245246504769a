-- What is told of the puts of the other endpoints stays where one that has left the ring is given back with all that it has (EHCI 1.0, 4.8.2 and 4.10).
--     EndpointReleaseHoldsPuts     the buffers of their puts hold their bytes
--     EndpointReleaseOwes          what was reported of each OUT endpoint and what is still to be sent are its puts
--     EndpointReleaseSends         the qTDs of each that a walk may meet are sent whole and in turn
--     EndpointReleaseStops         the queue heads of those that have ended are halted
--     EndpointReleaseKeepsTaken    what the device of each took begins its puts, and so it is of the one that is given back
use Rattle.std.specs.Prelude.{◌≡◌, ◌≢◌, ℕ, ◌*◌, Bool, false, List, slice_get, Option, Some, None}
use Rattle.mem_runs.specs.Book.{holding, Stands}
use Rattle.async_walk.specs.Walk.{Walk}
use Rattle.async_walk.specs.Rows.{place}
use Rattle.drv_table.specs.declared.content.Endpoint.{Endpoint}
use Rattle.drv_table.specs.Parts.{Parts as DriverParts}
use Rattle.drv_table.specs.Rows.{after_driver_row}
use Rattle.claims_driver.specs.Owners.{views_of}
use Rattle.claims_driver.specs.Leaving.{HasOwners}
use Rattle.claims_driver.specs.Scripts.{receives}
use Rattle.law_driver.specs.chained_transfers.AsynchronousTurns.{AsynchronousTakesTurns}
use Rattle.law_structures.specs.lent_structures.Structures.{StructureSets}
use Rattle.law_ring.specs.Hand.{Hand}
use Rattle.claims_base.specs.Controller.{Base}
use Rattle.law_ring.specs.OutBus.{Taker}
use Rattle.law_driver_ring.specs.Driven.{DrivesRing}
use Rattle.law_driver_ring.specs.Extents.{AreInRuns}
use Rattle.law_driver_ring.specs.fed_queues.Fed.{AreFed}
use Rattle.law_world.specs.steps.endpoint_releases.Released.{without_queue, IsToLeave, endpoint_row}
use Rattle.law_world.specs.streams.put_laws.HeldPuts.{HoldsPuts}
use Rattle.law_world.specs.streams.put_laws.Sent.{SentStand}
use Rattle.law_world.specs.streams.put_laws.Owed.{Owes}
use Rattle.law_world.specs.streams.put_laws.OwedTaken.{TakenBegin, EndedAreStopped}

-- no command is unfinished then, so all that is out of their queues is lent
abbrev pub EndpointReleaseHoldsPuts : Type 0
EndpointReleaseHoldsPuts = (base : Base) (member : ℕ → Bool) (parts : StructureSets) (hand : Hand) (w : Walk) (p : DriverParts) (e : ℕ) (x : Endpoint) (puts : ℕ → List ℕ)
    → DrivesRing base member parts hand (place w p.registers p.memory) p.driver → HasOwners p.driver → Stands (holding p.driver.book p.memory)
    → AreInRuns (views_of p.driver) parts → AsynchronousTakesTurns p.driver → AreFed p.driver parts → p.driver.command ≡ None → IsToLeave p.driver e x → member (32 * x.queue) ≡ false
    → HoldsPuts p.driver p.memory puts → HoldsPuts (after_driver_row (endpoint_row e) p).driver (after_driver_row (endpoint_row e) p).memory puts

-- the report tells the same of the other OUT endpoints
abbrev pub EndpointReleaseOwes : Type 0
EndpointReleaseOwes = (p : DriverParts) (e : ℕ) (x : Endpoint) (puts reported told : ℕ → List ℕ) → AsynchronousTakesTurns p.driver → IsToLeave p.driver e x
    → ((i : ℕ) (z : Endpoint) → i ≢ e → slice_get p.driver.endpoints i ≡ Some z → z.gone ≡ false → receives z.desc.name.way ≡ false → told (32 * z.queue) ≡ reported (32 * z.queue))
    → HoldsPuts p.driver p.memory puts → HoldsPuts (after_driver_row (endpoint_row e) p).driver (after_driver_row (endpoint_row e) p).memory puts
    → Owes p.driver p.memory puts reported → Owes (after_driver_row (endpoint_row e) p).driver (after_driver_row (endpoint_row e) p).memory puts told

abbrev pub EndpointReleaseSends : Type 0
EndpointReleaseSends = (p : DriverParts) (e : ℕ) (x : Endpoint) (hand : Hand) (parts : StructureSets) (order : ℕ → ℕ → ℕ) (out : ℕ → List ℕ) → HasOwners p.driver → AsynchronousTakesTurns p.driver
    → IsToLeave p.driver e x → SentStand p.driver order out hand parts
    → SentStand (after_driver_row (endpoint_row e) p).driver order out hand (without_queue parts (32 * x.queue))

abbrev pub EndpointReleaseStops : Type 0
EndpointReleaseStops = (p : DriverParts) (e : ℕ) (x : Endpoint) (parts : StructureSets) → HasOwners p.driver → AsynchronousTakesTurns p.driver → IsToLeave p.driver e x
    → EndedAreStopped p.driver parts → EndedAreStopped (after_driver_row (endpoint_row e) p).driver (without_queue parts (32 * x.queue))

abbrev pub EndpointReleaseKeepsTaken : {W : Type 0} → (W → ℕ → ℕ → Option Taker) → Type 0
EndpointReleaseKeepsTaken {W} taker = (p : DriverParts) (e : ℕ) (x : Endpoint) (puts : ℕ → List ℕ) (wire : W) → p.driver.command ≡ None → IsToLeave p.driver e x
    → TakenBegin taker p.driver puts wire → TakenBegin taker (after_driver_row (endpoint_row e) p).driver puts wire
