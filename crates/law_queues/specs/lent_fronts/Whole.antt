-- The row of a driver that lends a get, a put or a request, with what it leaves of all structures that stood before (EHCI 1.0, 3.5, 4.10 and 4.10.2).
--     IsLentBehind ..         the qTDs of the transfer but its first stand behind all that stood in its queue, in their order, and are out
--     GoesOnWhole ..          what stands afterwards, by the structures, the order and what was out before
--     LendRowLeavesFronts     the law; the reports of the queue heads `counted` are kept, of the others what is out is in its order, and a control endpoint has no
--                             stream
use Rattle.std.specs.Prelude.{◌≡◌, ◌≢◌, ℕ, suc, ◌*◌, ◌<◌, ◌++◌, Bool, List, length, slice_get, Option, Some, false}
use Rattle.usb_base.specs.declared.packets.Way.TheVariants as ways
use Rattle.word_mem.specs.Memory.{Mem}
use Rattle.async_walk.specs.Walk.{Walk}
use Rattle.async_walk.specs.Rows.{place}
use Rattle.qh_qtd.specs.declared.qtd.Qtd.{Qtd}
use Rattle.mem_runs.specs.Book.{holding, slot_of, Stands}
use Rattle.drv_table.specs.declared.content.Endpoint.{Endpoint as EndpointOf}
use Rattle.drv_table.specs.declared.content.Stage.{Stage}
use Rattle.drv_table.specs.DriverContent.{DriverContent}
use Rattle.drv_table.specs.Parts.{Parts as DriverParts}
use Rattle.drv_table.specs.Rows.{driver_row, after_driver_row}
use Rattle.claims_driver.specs.Owners.{TransferRuns, EndpointRuns, views_of}
use Rattle.claims_driver.specs.Leaving.{HasOwners}
use Rattle.claims_driver.specs.LentRuns.{AreLent}
use Rattle.law_structures.specs.lent_structures.Structures.{Structure, Element, StructureSets}
use Rattle.law_structures.specs.lent_structures.Sound.{IsElement}
use Rattle.law_ring.specs.Hand.{Hand}
use Rattle.claims_base.specs.Controller.{Base}
use Rattle.law_ring.specs.Told.{Endpoint}
use Rattle.law_ring.specs.Order.{IsSorted}
use Rattle.law_ring.specs.Bus.{Sender}
use Rattle.law_ring.specs.Pipes.{ArePiped}
use Rattle.law_ring.specs.Sparing.{SparesHead, SparesElement}
use Rattle.law_controller.specs.controlled_streams.Reported.{AreReported}
use Rattle.law_driver_ring.specs.Driven.{DrivesRing}
use Rattle.law_driver.specs.chained_transfers.Asynchronous.{OnlyAsynchronous}
use Rattle.law_driver.specs.chained_transfers.Turns.{AreInTurn}
use Rattle.law_driver_ring.specs.fed_queues.Places.{IsLast, IsMet}
use Rattle.law_driver_ring.specs.Written.{AwaitsLend}
use Rattle.law_driver_ring.specs.TransferLaws.{HasPieces, lent_driver}
use Rattle.law_queues.specs.fed_lends.Streams.{new_order, new_out}
use Rattle.law_queues.specs.fed_lends.Commands.{QueuesStand}
use Rattle.law_driver_ring.specs.Extents.{AreInRuns}
use Rattle.law_queues.specs.standing_fronts.Reaching.{Reaches}
use Rattle.law_queues.specs.released_queues.Fronts.{FrontsStand}
use Rattle.law_queues.specs.fed_lends.ToLend.{IsToBeLent}

pub record IsLentBehind (d : DriverContent) (m : Mem) (before now : StructureSets) (order order_now : ℕ → ℕ → ℕ) (out out_now : ℕ → List ℕ) : Type 0 where
  pub number : ℕ
  pub newest : suc number ≡ length d.transfers
  pub transfer : TransferRuns
  pub endpoint : EndpointRuns
  pub stage : Stage
  pub further : List Stage
  pub awaits : AwaitsLend d m number transfer endpoint stage further
  pub pieces : HasPieces d (slot_of (lent_driver d m).book.slots) before now transfer endpoint stage further
  pub last : IsLast (order (32 * endpoint.queue)) (before (32 * endpoint.queue)) (32 * transfer.first)
  -- their places, from this one on
  pub place : ℕ
  pub above : order (32 * endpoint.queue) (32 * transfer.first) < place
  pub order_is : order_now (32 * endpoint.queue) ≡ new_order d transfer further place (order (32 * endpoint.queue))
  pub out_is : out_now (32 * endpoint.queue) ≡ out (32 * endpoint.queue) ++ new_out d transfer further
  -- of every other queue all is as it was
  pub order_beside : (n : ℕ) → n ≢ 32 * endpoint.queue → order_now n ≡ order n
  pub out_beside : (n : ℕ) → n ≢ 32 * endpoint.queue → out_now n ≡ out n

pub record GoesOnWhole {W : Type 0} (sender : W → ℕ → ℕ → Option Sender) (base : Base) (stream : ℕ → ℕ → Bool) (packets : ℕ → ℕ → List (List ℕ)) (member streams counted : ℕ → Bool)
    (ends : ℕ → Endpoint) (acc : ℕ → List (List ℕ)) (reported : ℕ → List ℕ) (hand : Hand) (wire : W) (old : DriverContent) (memory : Mem) (before : StructureSets)
    (order_before : ℕ → ℕ → ℕ) (out_before : ℕ → List ℕ) (w : Walk) (p : DriverParts) : Type 0 where
  pub parts : StructureSets
  pub order : ℕ → ℕ → ℕ
  pub out : ℕ → List ℕ
  pub drives : DrivesRing base member parts hand (place w p.registers p.memory) p.driver
  pub piped : ArePiped stream packets sender member streams ends acc parts hand wire
  pub reports : AreReported counted order out hand parts acc reported
  pub queues : QueuesStand p.driver member streams ends parts order out
  pub fronts : FrontsStand p.driver parts order out
  pub runs : AreInRuns (views_of p.driver) parts
  pub reaches : (e : ℕ) (x : EndpointOf) (c : ℕ) → slice_get old.endpoints e ≡ Some x → x.gone ≡ false → IsElement (before (32 * x.queue)) c
      → Reaches old (before (32 * x.queue)) (order_before (32 * x.queue)) (out_before (32 * x.queue)) e x c
      → Reaches p.driver (parts (32 * x.queue)) (order (32 * x.queue)) (out (32 * x.queue)) e x c
  pub behind : IsLentBehind old memory before parts order_before order out_before out
  pub still : (n a : ℕ) (u : Structure) → before n a ≡ Some u → parts n a ≡ Some u
  pub heads : (n : ℕ) → SparesHead before parts n
  pub elements : (n a : ℕ) (u : Qtd) → before n a ≡ Some (Element u) → SparesElement before parts n a

abbrev pub LendRowLeavesFronts : {W : Type 0} → (W → ℕ → ℕ → Option Sender) → Type 0
LendRowLeavesFronts {W} sender = (base : Base) (stream : ℕ → ℕ → Bool) (packets : ℕ → ℕ → List (List ℕ)) (member streams counted : ℕ → Bool) (ends : ℕ → Endpoint) (acc : ℕ → List (List ℕ))
    (reported : ℕ → List ℕ) (hand : Hand) (wire : W)
    (parts : StructureSets) (order : ℕ → ℕ → ℕ) (out : ℕ → List ℕ) (w : Walk) (p : DriverParts) (b : ℕ) (words : List ℕ) → IsToBeLent p.driver p.memory b words
    → HasOwners p.driver → Stands (holding p.driver.book p.memory) → OnlyAsynchronous p.driver → AreInTurn p.driver
    → DrivesRing base member parts hand (place w p.registers p.memory) p.driver → ArePiped stream packets sender member streams ends acc parts hand wire
    → AreReported counted order out hand parts acc reported → QueuesStand p.driver member streams ends parts order out → FrontsStand p.driver parts order out
    → AreLent p.driver → AreInRuns (views_of p.driver) parts
    → ((e : ℕ) (x : EndpointOf) → slice_get p.driver.endpoints e ≡ Some x → IsMet p.driver e x → counted (32 * x.queue) ≡ false → IsSorted (order (32 * x.queue)) (out (32 * x.queue)))
    → ((e : ℕ) (x : EndpointOf) → slice_get p.driver.endpoints e ≡ Some x → x.desc.name.way ≡ ways.Ctl → stream x.desc.name.addr x.desc.name.num ≡ false)
    → GoesOnWhole sender base stream packets member streams counted ends acc reported hand wire p.driver p.memory parts order out w (after_driver_row (driver_row p) p)
