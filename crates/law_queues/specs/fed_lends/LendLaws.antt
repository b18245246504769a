-- The row of a driver that lends a get, a put or a request, over a ring whose queues are fed (EHCI 1.0, 3.5 and 4.10; USB 2.0, 8.5.3 and 8.6).
--     GoesOnLent ..       what stands afterwards: the ring, both sides of each pipe, what is reported, and the queues
--     LendRowGoesOn       the law; `heads` are the queue heads of which the reports are kept, of the others what is out is in its order, and a control endpoint has
--                         no stream
use Rattle.std.specs.Prelude.{◌≡◌, ℕ, ◌*◌, Bool, false, List, slice_get, Option, Some}
use Rattle.usb_base.specs.declared.packets.Way.TheVariants as ways
use Rattle.async_walk.specs.Walk.{Walk}
use Rattle.async_walk.specs.Rows.{place}
use Rattle.mem_runs.specs.Book.{holding, Stands}
use Rattle.drv_table.specs.declared.content.Endpoint.{Endpoint as EndpointOf}
use Rattle.drv_table.specs.Parts.{Parts as DriverParts}
use Rattle.drv_table.specs.Rows.{driver_row, after_driver_row}
use Rattle.claims_driver.specs.Leaving.{HasOwners}
use Rattle.law_structures.specs.lent_structures.Structures.{StructureSets}
use Rattle.law_ring.specs.Hand.{Hand}
use Rattle.claims_base.specs.Controller.{Base}
use Rattle.law_ring.specs.Told.{Endpoint}
use Rattle.law_ring.specs.Order.{IsSorted}
use Rattle.law_ring.specs.Bus.{Sender}
use Rattle.law_ring.specs.Pipes.{ArePiped}
use Rattle.law_controller.specs.controlled_streams.Reported.{AreReported}
use Rattle.law_driver_ring.specs.Driven.{DrivesRing}
use Rattle.law_driver.specs.chained_transfers.Asynchronous.{OnlyAsynchronous}
use Rattle.law_driver.specs.chained_transfers.Turns.{AreInTurn}
use Rattle.law_driver_ring.specs.fed_queues.Fed.{AreFed}
use Rattle.law_driver_ring.specs.fed_queues.Places.{AreMet, HaveStreams, AreLast, AreStillOut, IsMet}
use Rattle.law_queues.specs.fed_lends.ToLend.{IsToBeLent}

pub record GoesOnLent {W : Type 0} (sender : W → ℕ → ℕ → Option Sender) (base : Base) (stream : ℕ → ℕ → Bool) (packets : ℕ → ℕ → List (List ℕ)) (member streams heads : ℕ → Bool) (ends : ℕ → Endpoint)
    (acc : ℕ → List (List ℕ)) (reported : ℕ → List ℕ) (hand : Hand) (wire : W) (w : Walk) (p : DriverParts) : Type 0 where
  pub parts : StructureSets
  pub order : ℕ → ℕ → ℕ
  pub out : ℕ → List ℕ
  pub drives : DrivesRing base member parts hand (place w p.registers p.memory) p.driver
  pub piped : ArePiped stream packets sender member streams ends acc parts hand wire
  pub reports : AreReported heads order out hand parts acc reported
  pub fed : AreFed p.driver parts
  pub last : AreLast p.driver parts order
  pub still_out : AreStillOut p.driver out
  pub met : AreMet p.driver member
  pub have : HaveStreams p.driver streams ends

abbrev pub LendRowGoesOn : {W : Type 0} → (W → ℕ → ℕ → Option Sender) → Type 0
LendRowGoesOn {W} sender = (base : Base) (stream : ℕ → ℕ → Bool) (packets : ℕ → ℕ → List (List ℕ)) (member streams heads : ℕ → Bool) (ends : ℕ → Endpoint) (acc : ℕ → List (List ℕ))
    (reported : ℕ → List ℕ) (hand : Hand) (wire : W)
    (parts : StructureSets) (order : ℕ → ℕ → ℕ) (out : ℕ → List ℕ) (w : Walk) (p : DriverParts) (b : ℕ) (words : List ℕ) → IsToBeLent p.driver p.memory b words
    → HasOwners p.driver → Stands (holding p.driver.book p.memory) → OnlyAsynchronous p.driver → AreInTurn p.driver
    → DrivesRing base member parts hand (place w p.registers p.memory) p.driver → ArePiped stream packets sender member streams ends acc parts hand wire
    → AreReported heads order out hand parts acc reported → AreFed p.driver parts → AreLast p.driver parts order → AreStillOut p.driver out
    → AreMet p.driver member → HaveStreams p.driver streams ends
    → ((e : ℕ) (x : EndpointOf) → slice_get p.driver.endpoints e ≡ Some x → IsMet p.driver e x → heads (32 * x.queue) ≡ false → IsSorted (order (32 * x.queue)) (out (32 * x.queue)))
    → ((e : ℕ) (x : EndpointOf) → slice_get p.driver.endpoints e ≡ Some x → x.desc.name.way ≡ ways.Ctl → stream x.desc.name.addr x.desc.name.num ≡ false)
    → GoesOnLent sender base stream packets member streams heads ends acc reported hand wire w (after_driver_row (driver_row p) p)
