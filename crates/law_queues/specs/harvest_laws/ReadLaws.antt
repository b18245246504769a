-- The row of a harvest where a driver has bulk and control endpoints, its transfers take turns and its queues are fed (EHCI 1.0, 4.10).
--     HarvestRowIsTold      the bytes that were moved of a bulk endpoint's qTD are told, and what is reported of its stream is right
--     OtherHarvestIsTold    the harvest of a control endpoint's qTD tells nothing of any stream: also where a STALL ends the request, and all behind it with it
--                           (USB 2.0, 8.5.3.4)
--     WaitIsTold            one that isn't done changes nothing
use Rattle.std.specs.Prelude.{◌≡◌, ◌≢◌, ℕ, ◌*◌, List, []}
use Rattle.usb_base.specs.declared.packets.EpKind.TheVariants as kinds
use Rattle.law_structures.specs.lent_structures.Structures.{StructureSets, Tells}
use Rattle.law_ring.specs.Hand.{Hand}
use Rattle.law_ring.specs.QueueParts.{IsQueuePart}
use Rattle.law_ring.specs.Told.{Told}
use Rattle.drv_table.specs.declared.rows.DriverRow.TheVariants as rows
use Rattle.drv_table.specs.declared.rows.Found.{Found}
use Rattle.drv_table.specs.declared.rows.Found.TheVariants as founds
use Rattle.drv_table.specs.DriverContent.{DriverContent}
use Rattle.drv_table.specs.Parts.{Parts}
use Rattle.drv_table.specs.Rows.{after_driver_row}
use Rattle.claims_driver.specs.Owners.{note_in}
use Rattle.claims_driver.specs.Leaving.{HasOwners}
use Rattle.law_driver.specs.run_owners.Due.{IsHarvestDue}
use Rattle.law_driver.specs.chained_transfers.AsynchronousTurns.{AsynchronousTakesTurns}
use Rattle.law_driver.specs.chained_transfers.Out.{out_now}
use Rattle.law_queues.specs.harvest_laws.Outs.{IsOutEarlier}
use Rattle.law_controller.specs.controlled_streams.Reported.{IsReported}
use Rattle.law_driver_ring.specs.fed_queues.Fed.{AreFed}
use Rattle.law_queues.specs.harvest_laws.Told.{ToldStands}
use Rattle.law_queues.specs.harvest_laws.ToldLaws.{HarvestReports}

abbrev pub HarvestRowIsTold : Type 0
HarvestRowIsTold = (order : ℕ → ℕ) (p : Parts) (parts : StructureSets) (hand : Hand) (e t : ℕ) (found : Found) (acc : List (List ℕ)) (reported : ℕ → List ℕ)
    → (due : IsHarvestDue p e t found) → found ≢ founds.Active
    → HasOwners p.driver → AsynchronousTakesTurns p.driver → due.endpoint.desc.kind ≡ kinds.Bulk → AreFed p.driver parts → Tells p.memory parts → IsQueuePart (32 * due.endpoint.queue) (parts (32 * due.endpoint.queue))
    → ((a : ℕ) (z : List ℕ) → IsOutEarlier (note_in p.driver.notes) e t p.driver.transfers a → Told hand parts (32 * due.endpoint.queue) a z → z ≡ [])
    → ToldStands p.driver hand parts reported → IsReported order (out_now p.driver e) hand parts (32 * due.endpoint.queue) acc (reported (32 * due.endpoint.queue))
    → HarvestReports order p.driver (after_driver_row (rows.Harvest e t found) p).driver hand parts e due.endpoint acc reported

-- the lines of its requests change nothing of what is told of each queue that has a stream, and the qTDs of the other endpoints are out as before
pub record LeavesStreams (d new : DriverContent) (hand : Hand) (parts : StructureSets) (e : ℕ) (reported : ℕ → List ℕ) : Type 0 where
  pub stands : ToldStands new hand parts reported
  pub beside : (k : ℕ) → k ≢ e → out_now new k ≡ out_now d k

abbrev pub OtherHarvestIsTold : Type 0
OtherHarvestIsTold = (p : Parts) (parts : StructureSets) (hand : Hand) (e t : ℕ) (found : Found) (reported : ℕ → List ℕ) → (due : IsHarvestDue p e t found) → HasOwners p.driver
    → AsynchronousTakesTurns p.driver → due.endpoint.desc.kind ≡ kinds.Control → ToldStands p.driver hand parts reported
    → LeavesStreams p.driver (after_driver_row (rows.Harvest e t found) p).driver hand parts e reported

abbrev pub WaitIsTold : Type 0
WaitIsTold = (p : Parts) (parts : StructureSets) (hand : Hand) (e t : ℕ) (reported : ℕ → List ℕ) → IsHarvestDue p e t founds.Active → ToldStands p.driver hand parts reported
    → ToldStands (after_driver_row (rows.Harvest e t founds.Active) p).driver hand parts reported
