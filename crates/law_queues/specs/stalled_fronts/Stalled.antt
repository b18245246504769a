-- Fronts of queues where a control endpoint answered STALL (USB 2.0, 8.5.3.4; EHCI 1.0, 4.10.2 and 4.10.3). The walk stops at the qTD that was halted, so none of
-- those that are out behind it was worked on: the front goes on to the inactive qTD at the end of the queue, and the qTDs that no harvest read are passed over.
--     StallMovesFronts      the law, wherever the queue head stands, in the ring or in frames: its part is sound
--     StallStopsQueue       what is out yet is published
--     StallKeepsFronts, StallHaltsQueue
--                           the same of a queue head of the ring
use Rattle.std.specs.Prelude.{ℕ, ◌*◌, Bool, List}
use Rattle.drv_table.specs.declared.rows.Found.{Found}
use Rattle.drv_table.specs.declared.rows.DriverRow.TheVariants as rows
use Rattle.drv_table.specs.Parts.{Parts}
use Rattle.drv_table.specs.Rows.{after_driver_row}
use Rattle.law_driver.specs.run_owners.Due.{IsHarvestDue}
use Rattle.claims_driver.specs.Leaving.{HasOwners}
use Rattle.claims_driver.specs.LentRuns.{AreLent}
use Rattle.law_structures.specs.lent_structures.Structures.{StructureSets, Tells}
use Rattle.law_structures.specs.lent_structures.Sound.{IsMember}
use Rattle.law_ring.specs.Told.{Endpoint as Told}
use Rattle.law_frames.specs.Met.{IsQueuePart}
use Rattle.law_driver.specs.chained_transfers.AsynchronousTurns.{AsynchronousTakesTurns}
use Rattle.law_ring.specs.Halted.{HaltStops}
use Rattle.law_ring.specs.Order.{IsSorted}
use Rattle.law_driver.specs.chained_transfers.Out.{out_now}
use Rattle.law_driver_ring.specs.fed_queues.Places.{IsMet, AreStillOut}
use Rattle.law_queues.specs.mended_heads.Stalling.{IsStall, HaltsQueue}
use Rattle.law_queues.specs.fed_lends.Commands.{QueuesStand}
use Rattle.law_queues.specs.released_queues.Fronts.{FrontsStand}

abbrev pub StallMovesFronts : Type 0
StallMovesFronts = (p : Parts) (e t : ℕ) (found : Found) (member streams : ℕ → Bool) (ends : ℕ → Told) (parts : StructureSets) (order : ℕ → ℕ → ℕ) (out later : ℕ → List ℕ)
    → (due : IsHarvestDue p e t found) → IsStall due.endpoint.desc.kind found → HasOwners p.driver → AreLent p.driver → AsynchronousTakesTurns p.driver
    → QueuesStand p.driver member streams ends parts order out → AreStillOut (after_driver_row (rows.Harvest e t found) p).driver later
    → IsQueuePart (32 * due.endpoint.queue) (parts (32 * due.endpoint.queue)) → HaltsQueue (later (32 * due.endpoint.queue)) parts (32 * due.endpoint.queue)
    → FrontsStand p.driver parts order out → FrontsStand (after_driver_row (rows.Harvest e t found) p).driver parts order later

-- where the queue stops at the qTD that was halted, those of its requests that are out yet wait
abbrev pub StallStopsQueue : Type 0
StallStopsQueue = (p : Parts) (e t : ℕ) (found : Found) (member streams : ℕ → Bool) (ends : ℕ → Told) (parts : StructureSets) (order : ℕ → ℕ → ℕ) (out : ℕ → List ℕ)
    → (due : IsHarvestDue p e t found) → IsStall due.endpoint.desc.kind found → HasOwners p.driver → AsynchronousTakesTurns p.driver → Tells p.memory parts
    → QueuesStand p.driver member streams ends parts order out → IsMet p.driver e due.endpoint → IsQueuePart (32 * due.endpoint.queue) (parts (32 * due.endpoint.queue))
    → HaltStops (order (32 * due.endpoint.queue)) (out (32 * due.endpoint.queue)) (32 * due.endpoint.queue) (parts (32 * due.endpoint.queue))
    → IsSorted (order (32 * due.endpoint.queue)) (out (32 * due.endpoint.queue)) → FrontsStand p.driver parts order out
    → HaltsQueue (out_now (after_driver_row (rows.Harvest e t found) p).driver e) parts (32 * due.endpoint.queue)

-- ---- of the ring

abbrev pub StallKeepsFronts : Type 0
StallKeepsFronts = (p : Parts) (e t : ℕ) (found : Found) (member streams : ℕ → Bool) (ends : ℕ → Told) (parts : StructureSets) (order : ℕ → ℕ → ℕ) (out later : ℕ → List ℕ)
    → (due : IsHarvestDue p e t found) → IsStall due.endpoint.desc.kind found → HasOwners p.driver → AreLent p.driver → AsynchronousTakesTurns p.driver
    → QueuesStand p.driver member streams ends parts order out → AreStillOut (after_driver_row (rows.Harvest e t found) p).driver later
    → IsMember member (32 * due.endpoint.queue) (parts (32 * due.endpoint.queue)) → HaltsQueue (later (32 * due.endpoint.queue)) parts (32 * due.endpoint.queue)
    → FrontsStand p.driver parts order out → FrontsStand (after_driver_row (rows.Harvest e t found) p).driver parts order later

abbrev pub StallHaltsQueue : Type 0
StallHaltsQueue = (p : Parts) (e t : ℕ) (found : Found) (member streams : ℕ → Bool) (ends : ℕ → Told) (parts : StructureSets) (order : ℕ → ℕ → ℕ) (out : ℕ → List ℕ)
    → (due : IsHarvestDue p e t found) → IsStall due.endpoint.desc.kind found → HasOwners p.driver → AsynchronousTakesTurns p.driver → Tells p.memory parts
    → QueuesStand p.driver member streams ends parts order out → IsMet p.driver e due.endpoint → IsMember member (32 * due.endpoint.queue) (parts (32 * due.endpoint.queue))
    → HaltStops (order (32 * due.endpoint.queue)) (out (32 * due.endpoint.queue)) (32 * due.endpoint.queue) (parts (32 * due.endpoint.queue))
    → IsSorted (order (32 * due.endpoint.queue)) (out (32 * due.endpoint.queue)) → FrontsStand p.driver parts order out
    → HaltsQueue (out_now (after_driver_row (rows.Harvest e t found) p).driver e) parts (32 * due.endpoint.queue)
