-- Laws of harvests while stalled control endpoints are owed their stores (EHCI 1.0, 4.10.3 and 4.15.1; USB 2.0, 8.5.3.4).
--     IsStall kind found    the harvest finds that a control endpoint answered STALL
--     StallIsHalted         then the qTD was halted
--     HaltsQueue, HaltStopsQueue
--                           and so is its queue head, and what is behind it waits
--     HarvestKeepsMends     it finds nothing of the queues that wait, and the endpoint of a stall is owed three stores
use Rattle.std.specs.Prelude.{◌≡◌, ℕ, ◌*◌, ◌<◌, true, List, Some, None}
use Rattle.usb_base.specs.declared.packets.EpKind.{EpKind}
use Rattle.qh_qtd.specs.declared.qtd.Qtd.{Qtd}
use Rattle.qh_qtd.specs.declared.queue_head.Qh.{Qh}
use Rattle.drv_table.specs.declared.rows.DriverRow.TheVariants as rows
use Rattle.drv_table.specs.declared.rows.Found.{Found}
use Rattle.drv_table.specs.declared.rows.Found.TheVariants as founds
use Rattle.drv_table.specs.Harvests.{end_of, is_stall}
use Rattle.drv_table.specs.Parts.{Parts as DriverParts}
use Rattle.drv_table.specs.Rows.{after_driver_row}
use Rattle.law_driver.specs.run_owners.Due.{IsHarvestDue}
use Rattle.claims_driver.specs.Leaving.{HasOwners}
use Rattle.claims_driver.specs.Owners.{views_of}
use Rattle.claims_driver.specs.LentRuns.{AreLent}
use Rattle.law_driver.specs.chained_transfers.Turns.{AreInTurn}
use Rattle.law_structures.specs.lent_structures.Structures.{QueueHead, Element, StructureSets, Tells}
use Rattle.law_ring.specs.Halted.{IsHalted, HaltStops}
use Rattle.law_ring.specs.Order.{IsAmong}
use Rattle.law_driver_ring.specs.Inventory.{sorts_of, IsDriven}
use Rattle.law_driver_ring.specs.fed_queues.Places.{AreStillOut}
use Rattle.law_queues.specs.mended_heads.Owed.{StalledQueue, IsOwed}
use Rattle.law_queues.specs.mended_heads.Waiting.{AreAllPublished, MendsStand}

abbrev pub IsStall : EpKind → Found → Type 0
IsStall kind (founds.Ended n what) = (is_stall what ≡ true) × (end_of kind what ≡ None)
IsStall kind _ = ⊥

abbrev pub StallIsHalted : Type 0
StallIsHalted = (p : DriverParts) (e t : ℕ) (found : Found) (parts : StructureSets) (u : Qtd) → (due : IsHarvestDue p e t found) → IsStall due.endpoint.desc.kind found
    → Tells p.memory parts → parts (32 * due.endpoint.queue) (32 * due.transfer.place) ≡ Some (Element u) → IsHalted u

-- the queue head at n is halted, and what is out of it waits
pub record HaltsQueue (out : List ℕ) (parts : StructureSets) (n : ℕ) : Type 0 where
  pub queue : Qh
  pub here : parts n n ≡ Some (QueueHead queue)
  pub halted : queue.token.halted ≡ true
  pub published : AreAllPublished out (parts n)

abbrev pub HaltStopsQueue : Type 0
HaltStopsQueue = (order : ℕ → ℕ) (out later : List ℕ) (n a : ℕ) (parts : StructureSets) (q : Qh) (t : Qtd) → HaltStops order out n (parts n) → parts n n ≡ Some (QueueHead q)
    → IsAmong a out → parts n a ≡ Some (Element t) → IsHalted t → ((e : ℕ) → IsAmong e later → IsAmong e out × (order a < order e)) → HaltsQueue later parts n

abbrev pub HarvestKeepsMends : Type 0
HarvestKeepsMends = (p : DriverParts) (e t : ℕ) (found : Found) (parts : StructureSets) (out later : ℕ → List ℕ) → (due : IsHarvestDue p e t found) → HasOwners p.driver → AreLent p.driver
    → AreInTurn p.driver → Tells p.memory parts → IsDriven (views_of p.driver) (sorts_of parts) → AreStillOut p.driver out
    → ((s : StalledQueue) → IsOwed p.driver s → (a : ℕ) → IsAmong a (later (32 * s.queue)) → IsAmong a (out (32 * s.queue)))
    → (IsStall due.endpoint.desc.kind found → HaltsQueue (later (32 * due.endpoint.queue)) parts (32 * due.endpoint.queue))
    → MendsStand p.driver parts out → MendsStand (after_driver_row (rows.Harvest e t found) p).driver parts later
