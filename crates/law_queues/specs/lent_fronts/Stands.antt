-- The lend of a transfer, by what is told of the driver's queues alone: no word is of a ring, of streams or of frames, so whatever leads to its queue head stays out
-- (EHCI 1.0, 3.5, 3.6, 4.10 and 4.10.2).
--     AreSorted d order out   what is out of each queue that is met stands in its order
--     parts_with k parts      the structures with the qTDs of the transfer, and their buffers
--     StandsLent ..           what stands afterwards, by the structures, the order and what was out before
--     LeavesQueues ..         there are an order and what is out, by which it stands so
--     LendStands              the law; IsLentBehind is that of Whole.antt
--     LendIsAsked             what the walks ask of a lend: the transfer is written, and each buffer in its queue has a run of its own
--     LendIsMade              the content after the driver's event
use Rattle.std.specs.Prelude.{◌≡◌, ℕ, ◌*◌, Bool, false, List, slice_get, Some}
use Rattle.word_mem.specs.Memory.{Mem, IsShaped}
use Rattle.qh_qtd.specs.declared.qtd.Qtd.{Qtd}
use Rattle.mem_runs.specs.Book.{holding, slot_of, Stands}
use Rattle.drv_table.specs.declared.content.Endpoint.{Endpoint as EndpointOf}
use Rattle.drv_table.specs.declared.rows.DriverRow.TheVariants as rows
use Rattle.drv_table.specs.DriverContent.{DriverContent}
use Rattle.drv_table.specs.Parts.{Parts as DriverParts}
use Rattle.drv_table.specs.Rows.{after_driver_row}
use Rattle.claims_driver.specs.Owners.{runs_of_endpoint, runs_of_transfer, views_of}
use Rattle.claims_driver.specs.Leaving.{HasOwners}
use Rattle.claims_driver.specs.LentRuns.{AreLent}
use Rattle.law_structures.specs.lent_structures.Structures.{Structure, Element, StructureSets}
use Rattle.law_structures.specs.lent_structures.Sound.{IsElement}
use Rattle.law_ring.specs.Told.{Endpoint}
use Rattle.law_ring.specs.Order.{IsSorted}
use Rattle.law_ring.specs.Sparing.{SparesHead, SparesElement}
use Rattle.law_ring.specs.Together.{put_all}
use Rattle.law_frames.specs.Met.{IsQueuePart}
use Rattle.law_driver_ring.specs.Extents.{AreInRuns}
use Rattle.law_driver_ring.specs.Inventory.{sorts_of, IsDriven}
use Rattle.law_driver_ring.specs.Pieces.{NamesLent}
use Rattle.law_driver_ring.specs.TransferLaws.{lent_memory, items_of}
use Rattle.law_driver_ring.specs.Written.{AwaitsLend}
use Rattle.law_driver.specs.chained_transfers.Asynchronous.{OnlyAsynchronous}
use Rattle.law_driver.specs.chained_transfers.Turns.{AreInTurn}
use Rattle.law_driver_ring.specs.fed_queues.Fed.{AreFed}
use Rattle.law_driver_ring.specs.fed_queues.Places.{IsMet}
use Rattle.law_queues.specs.fed_lends.Commands.{QueuesStand}
use Rattle.law_queues.specs.fed_lends.ToLend.{IsToBeLent, lent_now}
use Rattle.law_queues.specs.released_queues.Fronts.{FrontsStand}
use Rattle.law_queues.specs.standing_fronts.Along.{LinksOfQueuesRise}
use Rattle.law_queues.specs.standing_fronts.Reaching.{Reaches}
use Rattle.law_queues.specs.standing_fronts.Tails.{TailsStand}
use Rattle.law_queues.specs.lent_fronts.Whole.{IsLentBehind}

abbrev pub AreSorted : DriverContent → (ℕ → ℕ → ℕ) → (ℕ → List ℕ) → Type 0
AreSorted d order out = (e : ℕ) (x : EndpointOf) → slice_get d.endpoints e ≡ Some x → IsMet d e x → IsSorted (order (32 * x.queue)) (out (32 * x.queue))

abbrev pub parts_with : {d : DriverContent} {m : Mem} {b : ℕ} {words : List ℕ} → IsToBeLent d m b words → StructureSets → StructureSets
parts_with {d = d} {m = m} k parts = put_all parts (32 * k.endpoint.queue) (items_of d m (runs_of_transfer k.transfer) (runs_of_endpoint k.endpoint) k.stage k.further)

-- by the order and what is out then
pub record StandsLent (d : DriverContent) (m : Mem) (queue : ℕ) (member streams : ℕ → Bool) (ends : ℕ → Endpoint) (before now : StructureSets) (order_before order : ℕ → ℕ → ℕ) (out_before out : ℕ → List ℕ) : Type 0 where
  pub queues : QueuesStand (lent_now d m) member streams ends now order out
  pub fronts : FrontsStand (lent_now d m) now order out
  pub runs : AreInRuns (views_of (lent_now d m)) now
  pub sorted : AreSorted (lent_now d m) order out
  pub part : IsQueuePart queue (now queue)
  pub reaches : (e : ℕ) (x : EndpointOf) (c : ℕ) → slice_get d.endpoints e ≡ Some x → x.gone ≡ false → IsElement (before (32 * x.queue)) c
      → Reaches d (before (32 * x.queue)) (order_before (32 * x.queue)) (out_before (32 * x.queue)) e x c
      → Reaches (lent_now d m) (now (32 * x.queue)) (order (32 * x.queue)) (out (32 * x.queue)) e x c
  pub rising : LinksOfQueuesRise d before order_before → LinksOfQueuesRise (lent_now d m) now order
  pub tails : TailsStand d before order_before out_before → TailsStand (lent_now d m) now order out
  pub behind : IsLentBehind d m before now order_before order out_before out
  pub still : (n a : ℕ) (u : Structure) → before n a ≡ Some u → now n a ≡ Some u
  pub heads : (n : ℕ) → SparesHead before now n
  pub elements : (n a : ℕ) (u : Qtd) → before n a ≡ Some (Element u) → SparesElement before now n a

pub record LeavesQueues (d : DriverContent) (m : Mem) (queue : ℕ) (member streams : ℕ → Bool) (ends : ℕ → Endpoint) (before now : StructureSets) (order_before : ℕ → ℕ → ℕ) (out_before : ℕ → List ℕ) : Type 0 where
  pub order : ℕ → ℕ → ℕ
  pub out : ℕ → List ℕ
  pub stands : StandsLent d m queue member streams ends before now order_before order out_before out

abbrev pub LendStands : Type 0
LendStands = (d : DriverContent) (m : Mem) (b : ℕ) (words : List ℕ) (member streams : ℕ → Bool) (ends : ℕ → Endpoint) (parts : StructureSets) (order : ℕ → ℕ → ℕ) (out : ℕ → List ℕ)
    → (k : IsToBeLent d m b words) → HasOwners d → Stands (holding d.book m) → IsShaped m → OnlyAsynchronous d → AreInTurn d → AreLent d → IsDriven (views_of d) (sorts_of parts)
    → AreInRuns (views_of d) parts → QueuesStand d member streams ends parts order out → FrontsStand d parts order out → AreSorted d order out
    → IsQueuePart (32 * k.endpoint.queue) (parts (32 * k.endpoint.queue))
    → LeavesQueues d m (32 * k.endpoint.queue) member streams ends parts (parts_with k parts) order out

abbrev pub LendIsAsked : Type 0
LendIsAsked = (d : DriverContent) (m : Mem) (b : ℕ) (words : List ℕ) (parts : StructureSets) → (k : IsToBeLent d m b words) → AreFed d parts → IsDriven (views_of d) (sorts_of parts)
    → AwaitsLend d m k.number (runs_of_transfer k.transfer) (runs_of_endpoint k.endpoint) k.stage k.further × NamesLent (slot_of d.book.slots) (parts (32 * k.endpoint.queue))

-- its one event so far
abbrev pub LendIsMade : Type 0
LendIsMade = (p : DriverParts) (b : ℕ) (words : List ℕ) → IsToBeLent p.driver p.memory b words
    → after_driver_row rows.Lend p ≡ record p { driver = lent_now p.driver p.memory; memory = lent_memory p.driver p.memory }
