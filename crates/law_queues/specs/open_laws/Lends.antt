-- The lend of an accepted open (EHCI 1.0, 4.8.1): its queue head and its inactive qTD stand in runs that are kept, and are lent before the head's link is
-- stored.
--     IsOpenReady d m              the newest endpoint's queue head and inactive qTD are all that is to be lent
--     IsAtLend ..                  the next event of the driver is their lend
--     parts_lent                   the structures after it
--     LendDrives, LendStands, LendIsOpened, LendPipes, LendReports      the laws
--     OpenLentStays, HeadIsThere   what the controller leaves of it, and that the head of the ring is told
use Rattle.std.specs.Prelude.{◌≡◌, ◌≢◌, ℕ, Bool, true, List, slice_get, Option, Some}
use Rattle.usb_base.specs.declared.packets.Ask.{Ask}
use Rattle.usb_base.specs.declared.packets.Reply.{Reply}
use Rattle.word_mem.specs.Memory.{Mem}
use Rattle.qh_qtd.specs.declared.queue_head.Qh.{Qh}
use Rattle.async_walk.specs.Walk.{Walk}
use Rattle.async_walk.specs.Rows.{place}
use Rattle.hc_core.specs.Controller.{Content}
use Rattle.drv_table.specs.declared.content.Endpoint.{Endpoint}
use Rattle.drv_table.specs.declared.content.Transfer.{Transfer}
use Rattle.drv_table.specs.declared.content.Command.TheVariants as unfinished
use Rattle.drv_table.specs.DriverContent.{DriverContent}
use Rattle.drv_table.specs.Parts.{Parts as DriverParts}
use Rattle.drv_table.specs.Words.{queue_head}
use Rattle.claims_driver.specs.Owners.{runs_of_endpoint, Views}
use Rattle.law_driver.specs.in_place.InPlace.{IsSound}
use Rattle.law_structures.specs.lent_structures.Structures.{QueueHead, StructureSets}
use Rattle.law_ring.specs.Hand.{Hand}
use Rattle.claims_base.specs.Controller.{Base}
use Rattle.law_ring.specs.Told.{Endpoint as Told}
use Rattle.law_controller.specs.controlled_streams.Control.{IsControlled, ControlEffect}
use Rattle.law_driver_ring.specs.Inventory.{sorts_of, IsDriven}
use Rattle.law_driver_ring.specs.Driven.{DrivesRing}
use Rattle.law_driver_ring.specs.LendOpened.{IsOpened, opened_parts}
use Rattle.law_driver_ring.specs.Linked.{head_at}
use Rattle.law_ring.specs.Bus.{Sender}
use Rattle.law_ring.specs.Pipes.{ArePiped}
use Rattle.law_controller.specs.controlled_streams.Reported.{AreReported}
use Rattle.law_driver.specs.chained_transfers.AsynchronousTurns.{AsynchronousTakesTurns}
use Rattle.law_queues.specs.publish_laws.Stores.{QueuesThen}
use Rattle.law_queues.specs.open_laws.Opens.{IsOpenLent, next_of}
use Rattle.law_driver_ring.specs.fed_queues.Places.{HasThere}

pub record IsOpenReady (d : DriverContent) (m : Mem) : Type 0 where
  pub number : ℕ
  pub endpoint : Endpoint
  pub here : slice_get d.endpoints number ≡ Some endpoint
  pub command : d.command ≡ Some (unfinished.Open endpoint.queue)
  pub made : d.made ≡ 0
  pub fresh : endpoint.linked ≡ true
  pub none : (t : ℕ) (y : Transfer) → slice_get d.transfers t ≡ Some y → y.endpoint ≢ number
  pub link : ℕ
  pub opened : IsOpened d m number (runs_of_endpoint endpoint) (queue_head endpoint.desc link endpoint.dummy)

pub record IsAtLend (d : DriverContent) (m : Mem) (member streams : ℕ → Bool) (ends : ℕ → Told) (parts : StructureSets) (order : ℕ → ℕ → ℕ) (out : ℕ → List ℕ) : Type 0 where
  pub ready : IsOpenReady d m
  pub sound : IsSound m d
  pub turns : AsynchronousTakesTurns d
  pub stand : QueuesThen d member streams ends parts order out

abbrev pub parts_lent : {d : DriverContent} {m : Mem} → StructureSets → IsOpenReady d m → StructureSets
parts_lent parts k = opened_parts parts (runs_of_endpoint k.endpoint) (queue_head k.endpoint.desc k.link k.endpoint.dummy)

abbrev pub LendDrives : Type 0
LendDrives = (base : Base) (w : Walk) (hand : Hand) (p : DriverParts) (member streams : ℕ → Bool) (ends : ℕ → Told) (parts : StructureSets) (order : ℕ → ℕ → ℕ) (out : ℕ → List ℕ)
    → (k : IsAtLend p.driver p.memory member streams ends parts order out) → DrivesRing base member parts hand (place w p.registers p.memory) p.driver
    → DrivesRing base member (parts_lent parts k.ready) hand (place w (next_of p).registers (next_of p).memory) (next_of p).driver

abbrev pub LendStands : Type 0
LendStands = (base : Base) (w : Walk) (hand : Hand) (p : DriverParts) (member streams : ℕ → Bool) (ends : ℕ → Told) (parts : StructureSets) (order : ℕ → ℕ → ℕ) (out : ℕ → List ℕ)
    → (k : IsAtLend p.driver p.memory member streams ends parts order out) → DrivesRing base member parts hand (place w p.registers p.memory) p.driver
    → QueuesThen (next_of p).driver member streams ends (parts_lent parts k.ready) order out × IsOpenLent (next_of p).driver member (parts_lent parts k.ready)

abbrev pub LendPipes : {W : Type 0} → (W → ℕ → ℕ → Option Sender) → Type 0
LendPipes {W} sender = (stream : ℕ → ℕ → Bool) (packets : ℕ → ℕ → List (List ℕ)) (acc : ℕ → List (List ℕ)) (wire : W) (base : Base) (w : Walk) (hand : Hand) (p : DriverParts)
    (member streams : ℕ → Bool)
    (ends : ℕ → Told) (parts : StructureSets) (order : ℕ → ℕ → ℕ) (out : ℕ → List ℕ) → (k : IsAtLend p.driver p.memory member streams ends parts order out)
    → DrivesRing base member parts hand (place w p.registers p.memory) p.driver → ((n : ℕ) → streams n ≡ true → member n ≡ true)
    → ArePiped stream packets sender member streams ends acc parts hand wire → ArePiped stream packets sender member streams ends acc (parts_lent parts k.ready) hand wire

-- of each queue head of which it was right, of any endpoint
abbrev pub LendReports : Type 0
LendReports = (acc : ℕ → List (List ℕ)) (reported : ℕ → List ℕ) (heads : ℕ → Bool) (base : Base) (w : Walk) (hand : Hand) (p : DriverParts) (member streams : ℕ → Bool) (ends : ℕ → Told)
    (parts : StructureSets) (order : ℕ → ℕ → ℕ) (out : ℕ → List ℕ) → (k : IsAtLend p.driver p.memory member streams ends parts order out)
    → DrivesRing base member parts hand (place w p.registers p.memory) p.driver
    → ((n : ℕ) → heads n ≡ true → HasThere p.driver n) → AreReported heads order out hand parts acc reported → AreReported heads order out hand (parts_lent parts k.ready) acc reported

-- ---- between the lend and the store

abbrev pub OpenLentStays : {W : Type 0} → (W → ℕ → Bool → W → Type 0) → (W → Ask → List ℕ → Reply → W → Type 0) → Type 0
OpenLentStays {W} begins transacts = (base : Base) (member : ℕ → Bool) (parts : StructureSets) (hand : Hand) (c : Content) (wire after : W) (now : StructureSets) (later : Hand) (d : DriverContent)
    → IsControlled base member parts hand c → ControlEffect begins transacts parts hand wire after now later → IsOpenLent d member parts → IsOpenLent d member now

pub record HasHeadQueue (parts : StructureSets) : Type 0 where
  pub queue : Qh
  pub here : parts head_at head_at ≡ Some (QueueHead queue)

abbrev pub HeadIsThere : Type 0
HeadIsThere = (v : Views) (parts : StructureSets) → IsDriven v (sorts_of parts) → HasHeadQueue parts
