-- What a driver's report tells of an endpoint that leaves the ring (EHCI 1.0, 4.8.2 and 4.10; USB 2.0, 8.6).
--     LeavesAreTold             the steps of its leave, up to the one that gives it back, leave what is told of each queue that has a stream
--     IsLeaver ..               endpoint e, which is x, is the next that is given back; no command is unfinished, and no transaction of its queue head waits
--                               for its write-back
--     LeaverCanBeTold           then all is known of it that its line needs, if it has a stream
--     IsToldGone ..             it was given back, and the lines of one that has a stream tell the bytes of these packets, where its cancel is told; where it had
--                               ended by an error they tell what they told before; of a cancelled control endpoint nothing is said
--     EndpointReleaseIsTold     so it is after the row that gives it back, and of each other queue is told what was told before
use Rattle.std.specs.Prelude.{◌≡◌, ℕ, ◌*◌, true, false, List, slice_get, Some, None}
use Rattle.std.specs.List.{concat}
use Rattle.law_structures.specs.lent_structures.Structures.{StructureSets, Tells}
use Rattle.law_ring.specs.Hand.{Hand}
use Rattle.claims_report.specs.Streams.{has_stream}
use Rattle.drv_table.specs.declared.content.Endpoint.{Endpoint}
use Rattle.drv_table.specs.DriverContent.{DriverContent}
use Rattle.drv_table.specs.Parts.{Parts}
use Rattle.drv_table.specs.Releases.{is_told}
use Rattle.drv_table.specs.Rows.{after_driver_row}
use Rattle.claims_driver.specs.Leaving.{HasOwners}
use Rattle.law_driver.specs.chained_transfers.AsynchronousTurns.{AsynchronousTakesTurns}
use Rattle.law_driver.specs.chained_transfers.Out.{out_now}
use Rattle.law_driver_ring.specs.fed_queues.Fed.{AreFed}
use Rattle.law_controller.specs.controlled_streams.Reported.{IsReported}
use Rattle.law_queues.specs.harvest_laws.Told.{ToldStands}
use Rattle.law_queues.specs.leaving_drivers.Before.{IsAsBefore}
use Rattle.law_queues.specs.leaving_drivers.Told.{told_to}
use Rattle.law_queues.specs.cancelled_bytes.Cancelled.{SettlesElsewhere, CanBeTold}
use Rattle.law_world.specs.steps.endpoint_releases.Released.{without_queue, IsToLeave, endpoint_row}

-- an accepted cancel, the store that unlinks, the doorbell with the readings, and the clear of Async Advance
abbrev pub LeavesAreTold : Type 0
LeavesAreTold = (d f : DriverContent) (hand : Hand) (parts : StructureSets) (reported : ℕ → List ℕ) → IsAsBefore d f → ToldStands d hand parts reported → ToldStands f hand parts reported

-- ---- the endpoint that is given back

-- nothing that was harvested is left to give back before it
pub record IsLeaver (parts : StructureSets) (hand : Hand) (p : Parts) (e : ℕ) (x : Endpoint) : Type 0 where
  pub idle : p.driver.command ≡ None
  pub leaves : IsToLeave p.driver e x
  pub unlinked : x.linked ≡ false
  pub owners : HasOwners p.driver
  pub turns : AsynchronousTakesTurns p.driver
  pub fed : AreFed p.driver parts
  pub tells : Tells p.memory parts
  pub settled : SettlesElsewhere hand (32 * x.queue)

-- what was held back of it is known
abbrev pub LeaverCanBeTold : Type 0
LeaverCanBeTold = (parts : StructureSets) (hand : Hand) (p : Parts) (e : ℕ) (x : Endpoint) (reported : ℕ → List ℕ)
    → IsLeaver parts hand p e x → has_stream x.desc.kind ≡ true → is_told x ≡ true → (k : ToldStands p.driver hand parts reported) → CanBeTold p.driver p.memory parts hand e x (k.held e)

pub record IsToldGone (d new : DriverContent) (e : ℕ) (x : Endpoint) (acc : List (List ℕ)) : Type 0 where
  pub gone : slice_get new.endpoints e ≡ Some (record x { gone = true })
  pub told : has_stream x.desc.kind ≡ true → is_told x ≡ true → told_to new x.desc.name ≡ concat acc
  -- it had ended by an error
  pub before : is_told x ≡ false → told_to new x.desc.name ≡ told_to d x.desc.name

-- the bytes that were reported of it and those that are moved but not harvested are those of the packets taken
abbrev pub EndpointReleaseIsTold : Type 0
EndpointReleaseIsTold = (order : ℕ → ℕ) (parts : StructureSets) (hand : Hand) (p : Parts) (e : ℕ) (x : Endpoint) (acc : List (List ℕ))
    (reported : ℕ → List ℕ)
    → IsLeaver parts hand p e x → (has_stream x.desc.kind ≡ true → IsReported order (out_now p.driver e) hand parts (32 * x.queue) acc (reported (32 * x.queue)))
    → ToldStands p.driver hand parts reported
    → ToldStands (after_driver_row (endpoint_row e) p).driver hand (without_queue parts (32 * x.queue)) reported
    × IsToldGone p.driver (after_driver_row (endpoint_row e) p).driver e x acc
