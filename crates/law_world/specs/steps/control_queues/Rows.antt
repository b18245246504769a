-- Laws of what the rows of a driver leave of its control queues (EHCI 1.0, 3.5, 3.6.3, 4.8, 4.10.2 and 4.10.3; USB 2.0, 8.5.3.4).
--     LendKeepsControls           the lend of a transfer: its qTDs stand behind all that stood in the queue, each leads to the next of them
--     StoreKeepsControls          each of the stores by which its first qTD is published
--     OpenLendKeepsControls, OpenLinkKeepsControls
--                                 the lend of an accepted open, and the store of the head's link that finishes it
--     HarvestKeepsControls        a harvest, where a control endpoint answered STALL too
--     ReleaseKeepsControls        the blocks of a transfer are given back
--     MendKeepsControls           a store that a stalled queue is owed
--     UnlinkKeepsControls         the store by which a cancelled endpoint's queue head leaves the ring
--     LeaverKeepsControls         the blocks of an endpoint that has left are given back
use Rattle.std.specs.Prelude.{◌≡◌, ℕ, ◌*◌, Bool, List}
use Rattle.drv_table.specs.declared.content.Endpoint.{Endpoint}
use Rattle.drv_table.specs.declared.content.Transfer.{Transfer}
use Rattle.drv_table.specs.declared.rows.DriverRow.TheVariants as rows
use Rattle.drv_table.specs.declared.rows.Found.{Found}
use Rattle.drv_table.specs.Parts.{Parts as DriverParts}
use Rattle.drv_table.specs.Rows.{driver_row, after_driver_row}
use Rattle.law_driver.specs.run_owners.Due.{IsHarvestDue}
use Rattle.claims_driver.specs.Leaving.{HasOwners}
use Rattle.claims_driver.specs.Owners.{views_of}
use Rattle.claims_driver.specs.LentRuns.{AreLent}
use Rattle.law_driver.specs.chained_transfers.AsynchronousTurns.{AsynchronousTakesTurns}
use Rattle.law_structures.specs.lent_structures.Structures.{StructureSets, Tells}
use Rattle.law_structures.specs.lent_structures.Sound.{IsMember}
use Rattle.law_ring.specs.Hand.{Hand}
use Rattle.claims_base.specs.Controller.{Base}
use Rattle.law_ring.specs.Fewer.{without_those}
use Rattle.law_ring.specs.Told.{Endpoint as Told}
use Rattle.law_ring.specs.Streams.{AreMembers}
use Rattle.async_walk.specs.Rows.{place}
use Rattle.async_walk.specs.Walk.{Walk}
use Rattle.law_driver_ring.specs.Driven.{DrivesRing}
use Rattle.law_driver_ring.specs.Inventory.{sorts_of, IsDriven}
use Rattle.law_driver_ring.specs.Released.{goes_of, release_row}
use Rattle.law_controller.specs.controlled_streams.Opened.{with_none}
use Rattle.law_controller.specs.controlled_streams.Returned.{staying_of}
use Rattle.law_driver_ring.specs.fed_queues.Places.{AreStillOut}
use Rattle.law_queues.specs.fed_lends.Commands.{QueuesStand}
use Rattle.law_queues.specs.fed_lends.ToLend.{IsToBeLent}
use Rattle.law_queues.specs.lent_fronts.Whole.{IsLentBehind}
use Rattle.law_queues.specs.mended_heads.Mended.{IsAtMend, parts_then as parts_mended}
use Rattle.law_queues.specs.open_laws.Lends.{IsAtLend, parts_lent}
use Rattle.law_queues.specs.open_laws.Opens.{IsAtOpen, head_then}
use Rattle.law_queues.specs.publish_laws.Stores.{IsAtStore, published_by, parts_then as parts_stored, out_then as out_stored, next_of}
use Rattle.law_queues.specs.released_queues.Fronts.{FrontsStand}
use Rattle.law_queues.specs.released_queues.Released.{IsReturning}
use Rattle.law_world.specs.steps.unlinked_streams.Unlinks.{IsAtUnlink, parts_unlinked}
use Rattle.law_world.specs.steps.endpoint_releases.Released.{without_queue, endpoint_row, IsToLeave}
use Rattle.law_world.specs.steps.control_queues.Controls.{ControlsStand}

-- ---- a transfer is lent, and its first qTD is published

-- what is told of the queues afterwards
abbrev pub LendKeepsControls : Type 0
LendKeepsControls = (p : DriverParts) (b : ℕ) (words : List ℕ) (member streams : ℕ → Bool) (ends : ℕ → Told) (parts now : StructureSets) (order order_now : ℕ → ℕ → ℕ) (out out_now : ℕ → List ℕ)
    → IsToBeLent p.driver p.memory b words → AsynchronousTakesTurns p.driver → AreMembers member parts → QueuesStand p.driver member streams ends parts order out
    → QueuesStand (next_of p).driver member streams ends now order_now out_now → IsLentBehind p.driver p.memory parts now order order_now out out_now
    → ControlsStand p.driver parts order out → ControlsStand (next_of p).driver now order_now out_now

abbrev pub StoreKeepsControls : Type 0
StoreKeepsControls = (p : DriverParts) (member streams : ℕ → Bool) (ends : ℕ → Told) (parts : StructureSets) (order : ℕ → ℕ → ℕ) (out : ℕ → List ℕ) (b : ℕ) (words : List ℕ)
    → (k : IsAtStore p.driver p.memory member streams ends parts order out b words) → ControlsStand p.driver parts order out
    → ControlsStand (next_of p).driver (parts_stored (published_by k)) order (out_stored out (next_of p).driver (published_by k))

-- ---- an endpoint is opened

abbrev pub OpenLendKeepsControls : Type 0
OpenLendKeepsControls = (base : Base) (w : Walk) (hand : Hand) (p : DriverParts) (member streams : ℕ → Bool) (ends : ℕ → Told) (parts : StructureSets) (order : ℕ → ℕ → ℕ) (out : ℕ → List ℕ)
    → (k : IsAtLend p.driver p.memory member streams ends parts order out) → DrivesRing base member parts hand (place w p.registers p.memory) p.driver
    → ControlsStand p.driver parts order out → ControlsStand (next_of p).driver (parts_lent parts k.ready) order out

-- nothing is out of the new queue
abbrev pub OpenLinkKeepsControls : Type 0
OpenLinkKeepsControls = (p : DriverParts) (member streams : ℕ → Bool) (ends : ℕ → Told) (parts : StructureSets) (order : ℕ → ℕ → ℕ) (out : ℕ → List ℕ)
    → (k : IsAtOpen p.driver p.memory member streams ends parts order out) → ControlsStand p.driver parts order out
    → ControlsStand (next_of p).driver (head_then parts k.queue k.lent.endpoint) order (with_none out (32 * k.lent.endpoint.queue))

-- ---- what is done is harvested and given back

abbrev pub HarvestKeepsControls : Type 0
HarvestKeepsControls = (p : DriverParts) (e t : ℕ) (found : Found) (member streams : ℕ → Bool) (ends : ℕ → Told) (parts : StructureSets) (order : ℕ → ℕ → ℕ) (out later : ℕ → List ℕ)
    → (due : IsHarvestDue p e t found) → HasOwners p.driver → AreLent p.driver → AsynchronousTakesTurns p.driver → Tells p.memory parts → IsDriven (views_of p.driver) (sorts_of parts)
    → QueuesStand p.driver member streams ends parts order out → IsMember member (32 * due.endpoint.queue) (parts (32 * due.endpoint.queue))
    → AreStillOut (after_driver_row (rows.Harvest e t found) p).driver later → FrontsStand p.driver parts order out → ControlsStand p.driver parts order out
    → ControlsStand (after_driver_row (rows.Harvest e t found) p).driver parts order later

abbrev pub ReleaseKeepsControls : Type 0
ReleaseKeepsControls = (p : DriverParts) (t : ℕ) (y : Transfer) (x : Endpoint) (parts : StructureSets) (order : ℕ → ℕ → ℕ) (out : ℕ → List ℕ) → driver_row p ≡ release_row t
    → IsReturning p.driver t y x → ControlsStand p.driver parts order out
    → ControlsStand (after_driver_row (release_row t) p).driver (without_those parts (32 * x.queue) (goes_of p.driver y)) order (staying_of (32 * x.queue) (goes_of p.driver y) out)

-- ---- a stalled queue goes on

abbrev pub MendKeepsControls : Type 0
MendKeepsControls = (p : DriverParts) (parts : StructureSets) (order : ℕ → ℕ → ℕ) (out : ℕ → List ℕ) → (k : IsAtMend p parts out) → ControlsStand p.driver parts order out
    → ControlsStand (next_of p).driver (parts_mended k) order out

-- ---- an endpoint leaves

abbrev pub UnlinkKeepsControls : Type 0
UnlinkKeepsControls = (p : DriverParts) (member : ℕ → Bool) (parts : StructureSets) (order : ℕ → ℕ → ℕ) (out : ℕ → List ℕ) → (k : IsAtUnlink p.driver member parts)
    → ControlsStand p.driver parts order out → ControlsStand (next_of p).driver (parts_unlinked parts k.before k.queue k.after) order out

abbrev pub LeaverKeepsControls : Type 0
LeaverKeepsControls = (p : DriverParts) (e : ℕ) (x : Endpoint) (parts : StructureSets) (order : ℕ → ℕ → ℕ) (out : ℕ → List ℕ) → driver_row p ≡ endpoint_row e → IsToLeave p.driver e x
    → ControlsStand p.driver parts order out → ControlsStand (after_driver_row (endpoint_row e) p).driver (without_queue parts (32 * x.queue)) order out
