-- The stores by which the driver publishes the first qTD of its newest transfer (EHCI 1.0, 3.5 and 4.10.2).
--     IsAtStore d m member streams ends parts order out b words     the next event of the driver is such a store
--     parts_then, out_then        the structures and what is out after it
--     QueuesThen                  what is told of the driver's queues
--     StorePublishes, StorePipes, StoreReports, StoreStands          the laws: the ring, the pipes, the report and the queues
use Rattle.std.specs.Prelude.{◌≡◌, ℕ, ◌*◌, ◌≤◌, Bool, true, List, Option, Some}
use Rattle.word_mem.specs.Memory.{Mem}
use Rattle.async_walk.specs.Walk.{Walk}
use Rattle.async_walk.specs.Rows.{place}
use Rattle.drv_table.specs.declared.content.Command.TheVariants as unfinished
use Rattle.drv_table.specs.DriverContent.{DriverContent}
use Rattle.drv_table.specs.Parts.{Parts as DriverParts}
use Rattle.drv_table.specs.Rows.{driver_row, after_driver_row}
use Rattle.claims_driver.specs.LentRuns.{AreLent}
use Rattle.law_driver.specs.in_place.InPlace.{IsSound}
use Rattle.law_structures.specs.lent_structures.Structures.{StructureSets}
use Rattle.law_ring.specs.QueueParts.{IsQueuePart}
use Rattle.law_ring.specs.Hand.{Hand}
use Rattle.claims_base.specs.Controller.{Base}
use Rattle.law_ring.specs.Told.{Endpoint as Told}
use Rattle.law_driver_ring.specs.Driven.{DrivesRing}
use Rattle.law_ring.specs.Bus.{Sender}
use Rattle.law_ring.specs.Pipes.{ArePiped}
use Rattle.law_controller.specs.controlled_streams.Reported.{AreReported}
use Rattle.law_driver_ring.specs.Published.{partly}
use Rattle.law_controller.specs.controlled_streams.Storing.{with_out, stored_parts}
use Rattle.law_driver.specs.chained_transfers.Out.{out_now}
use Rattle.law_driver.specs.chained_transfers.AsynchronousTurns.{AsynchronousTakesTurns}
use Rattle.law_driver_ring.specs.fed_queues.Fed.{IsPublished, AreFed}
use Rattle.law_driver_ring.specs.fed_queues.Places.{AreMet, HaveStreams, AreLast, AreStillOut}

-- the qTD was lent, and not all of its words are stored
pub record IsAtStore (d : DriverContent) (m : Mem) (member streams : ℕ → Bool) (ends : ℕ → Told) (parts : StructureSets) (order : ℕ → ℕ → ℕ) (out : ℕ → List ℕ) (b : ℕ) (words : List ℕ) : Type 0 where
  pub command : d.command ≡ Some (unfinished.Publish b words)
  pub made : 1 ≤ d.made
  pub sound : IsSound m d
  pub lent : AreLent d
  pub turns : AsynchronousTakesTurns d
  pub met : AreMet d member
  pub streams_are : HaveStreams d streams ends
  pub fed : AreFed d parts
  pub last : AreLast d parts order
  pub out_are : AreStillOut d out

abbrev pub published_by : {d : DriverContent} {m : Mem} {member streams : ℕ → Bool} {ends : ℕ → Told} {parts : StructureSets} {order : ℕ → ℕ → ℕ} {out : ℕ → List ℕ} {b : ℕ} {words : List ℕ}
    → IsAtStore d m member streams ends parts order out b words → IsPublished d parts b words
published_by {b = b} {words = words} k = k.fed.publishes b words k.command

abbrev pub parts_then : {d : DriverContent} {parts : StructureSets} {b : ℕ} {words : List ℕ} → IsPublished d parts b words → StructureSets
parts_then {d = d} {parts = parts} {b = b} k = stored_parts parts (32 * k.endpoint.queue) (32 * b) (partly k.qtd d.made)

abbrev pub out_then : {d : DriverContent} {parts : StructureSets} {b : ℕ} {words : List ℕ} → (ℕ → List ℕ) → DriverContent → IsPublished d parts b words → ℕ → List ℕ
out_then out new k = with_out out (32 * k.endpoint.queue) (out_now new k.transfer.endpoint)

-- all that is told of the driver's queues after it
pub record QueuesThen (d : DriverContent) (member streams : ℕ → Bool) (ends : ℕ → Told) (parts : StructureSets) (order : ℕ → ℕ → ℕ) (out : ℕ → List ℕ) : Type 0 where
  pub met : AreMet d member
  pub streams_are : HaveStreams d streams ends
  pub fed : AreFed d parts
  pub last : AreLast d parts order
  pub out_are : AreStillOut d out

abbrev pub next_of : DriverParts → DriverParts
next_of p = after_driver_row (driver_row p) p

abbrev pub StorePublishes : Type 0
StorePublishes = (base : Base) (w : Walk) (hand : Hand) (p : DriverParts) (member streams : ℕ → Bool) (ends : ℕ → Told) (parts : StructureSets) (order : ℕ → ℕ → ℕ) (out : ℕ → List ℕ) (b : ℕ)
    (words : List ℕ)
    → (k : IsAtStore p.driver p.memory member streams ends parts order out b words) → DrivesRing base member parts hand (place w p.registers p.memory) p.driver
    → DrivesRing base member (parts_then (published_by k)) hand (place w (next_of p).registers (next_of p).memory) (next_of p).driver

abbrev pub StorePipes : {W : Type 0} → (W → ℕ → ℕ → Option Sender) → Type 0
StorePipes {W} sender = (stream : ℕ → ℕ → Bool) (packets : ℕ → ℕ → List (List ℕ)) (acc : ℕ → List (List ℕ)) (wire : W) (hand : Hand) (p : DriverParts) (member streams : ℕ → Bool) (ends : ℕ → Told)
    (parts : StructureSets) (order : ℕ → ℕ → ℕ) (out : ℕ → List ℕ) (b : ℕ) (words : List ℕ) → (k : IsAtStore p.driver p.memory member streams ends parts order out b words)
    → ArePiped stream packets sender member streams ends acc parts hand wire → ArePiped stream packets sender member streams ends acc (parts_then (published_by k)) hand wire

-- of any queue heads, whether they have streams or not
abbrev pub StoreReports : Type 0
StoreReports = (acc : ℕ → List (List ℕ)) (reported : ℕ → List ℕ) (hand : Hand) (heads : ℕ → Bool) (p : DriverParts) (member streams : ℕ → Bool) (ends : ℕ → Told) (parts : StructureSets)
    (order : ℕ → ℕ → ℕ) (out : ℕ → List ℕ) (b : ℕ) (words : List ℕ) → (k : IsAtStore p.driver p.memory member streams ends parts order out b words)
    → ((n : ℕ) → member n ≡ true → IsQueuePart n (parts n)) → AreReported heads order out hand parts acc reported
    → AreReported heads order (out_then out (next_of p).driver (published_by k)) hand (parts_then (published_by k)) acc reported

abbrev pub StoreStands : Type 0
StoreStands = (p : DriverParts) (member streams : ℕ → Bool) (ends : ℕ → Told) (parts : StructureSets) (order : ℕ → ℕ → ℕ) (out : ℕ → List ℕ) (b : ℕ) (words : List ℕ)
    → (k : IsAtStore p.driver p.memory member streams ends parts order out b words)
    → QueuesThen (next_of p).driver member streams ends (parts_then (published_by k)) order (out_then out (next_of p).driver (published_by k))
