-- The store of the head's link by which an open is finished (EHCI 1.0, 4.8.1): the walk may meet the new queue head, and the stream of an IN one begins.
--     IsOpenLent d member parts    the newest endpoint's queue head and its inactive qTD were lent, and the walk doesn't meet them yet
--     AreNamesApart d              no two endpoints of one way have one address and one number
--     IsAtOpen ..                  the next event of the driver is that store
--     head_then, hand_then, end_then, streams_then     the structures, what is in hand, the endpoint and the queue heads with streams after it
--     OpenIsLinked, OpenPipes, OpenReports, OpenStands     the laws
use Rattle.std.specs.Prelude.{◌≡◌, ◌≢◌, ℕ, ◌*◌, ◌==◌, Bool, true, false, List, slice_get, Option, Some, if◌then◌else◌}
use Rattle.word_mem.specs.Memory.{Mem}
use Rattle.qh_qtd.specs.declared.queue_head.Qh.{Qh}
use Rattle.async_walk.specs.Walk.{Walk}
use Rattle.async_walk.specs.Rows.{place}
use Rattle.drv_table.specs.declared.content.Endpoint.{Endpoint}
use Rattle.drv_table.specs.declared.content.Transfer.{Transfer}
use Rattle.drv_table.specs.declared.content.Command.TheVariants as unfinished
use Rattle.drv_table.specs.DriverContent.{DriverContent}
use Rattle.drv_table.specs.Parts.{Parts as DriverParts}
use Rattle.drv_table.specs.Rows.{driver_row, after_driver_row}
use Rattle.drv_table.specs.Words.{to_queue_head, queue_head}
use Rattle.claims_driver.specs.Owners.{runs_of_endpoint}
use Rattle.law_driver.specs.in_place.InPlace.{IsSound}
use Rattle.law_structures.specs.lent_structures.Structures.{QueueHead, StructureSets, put}
use Rattle.law_ring.specs.Hand.{Hand}
use Rattle.claims_base.specs.Controller.{Base}
use Rattle.law_ring.specs.Stores.{hand_linked}
use Rattle.law_ring.specs.Told.{Endpoint as Told, endpoint_of}
use Rattle.law_driver_ring.specs.Driven.{DrivesRing}
use Rattle.law_driver_ring.specs.Linked.{opened_part, with_member, head_at}
use Rattle.law_ring.specs.Bus.{Sender}
use Rattle.law_ring.specs.Pipes.{AreEndpoints, ArePiped}
use Rattle.law_controller.specs.controlled_streams.Reported.{AreReported}
use Rattle.law_controller.specs.controlled_streams.Unopened.{AreUnopened}
use Rattle.law_controller.specs.controlled_streams.Opened.{with_stream, with_end, with_none}
use Rattle.claims_driver.specs.Scripts.{comes_in}
use Rattle.law_driver.specs.chained_transfers.AsynchronousTurns.{AsynchronousTakesTurns}
use Rattle.law_driver_ring.specs.fed_queues.Places.{HasThere}
use Rattle.law_queues.specs.publish_laws.Stores.{QueuesThen}

pub record IsOpenLent (d : DriverContent) (member : ℕ → Bool) (parts : StructureSets) : Type 0 where
  pub number : ℕ
  pub endpoint : Endpoint
  pub here : slice_get d.endpoints number ≡ Some endpoint
  pub command : d.command ≡ Some (unfinished.Open endpoint.queue)
  pub made : d.made ≡ 1
  pub fresh : endpoint.linked ≡ true
  pub unmet : member (32 * endpoint.queue) ≡ false
  pub none : (t : ℕ) (y : Transfer) → slice_get d.transfers t ≡ Some y → y.endpoint ≢ number
  pub link : ℕ
  pub part : (b : ℕ) → parts (32 * endpoint.queue) b ≡ opened_part (runs_of_endpoint endpoint) (queue_head endpoint.desc link endpoint.dummy) b

abbrev pub AreNamesApart : DriverContent → Type 0
AreNamesApart d = (e f : ℕ) (x y : Endpoint) → slice_get d.endpoints e ≡ Some x → slice_get d.endpoints f ≡ Some y → x.desc.name.addr ≡ y.desc.name.addr
    → x.desc.name.num ≡ y.desc.name.num → x.desc.name.way ≡ y.desc.name.way → e ≡ f

pub record IsAtOpen (d : DriverContent) (m : Mem) (member streams : ℕ → Bool) (ends : ℕ → Told) (parts : StructureSets) (order : ℕ → ℕ → ℕ) (out : ℕ → List ℕ) : Type 0 where
  pub lent : IsOpenLent d member parts
  pub sound : IsSound m d
  pub turns : AsynchronousTakesTurns d
  pub stand : QueuesThen d member streams ends parts order out
  pub queue : Qh
  pub head : parts head_at head_at ≡ Some (QueueHead queue)

abbrev pub head_then : StructureSets → Qh → Endpoint → StructureSets
head_then parts q x = put parts head_at head_at (QueueHead (record q { link = to_queue_head x.queue }))

abbrev pub hand_then : Hand → Endpoint → Hand
hand_then hand x = hand_linked head_at (to_queue_head x.queue) hand

abbrev pub end_then : Endpoint → Told
end_then x = endpoint_of (queue_head x.desc 0 x.dummy)

-- an IN endpoint has a stream
abbrev pub streams_then : (ℕ → Bool) → Endpoint → ℕ → Bool
streams_then streams x k = if k == 32 * x.queue then comes_in x.desc.name.way else streams k

abbrev pub next_of : DriverParts → DriverParts
next_of p = after_driver_row (driver_row p) p

abbrev pub OpenIsLinked : Type 0
OpenIsLinked = (base : Base) (w : Walk) (hand : Hand) (p : DriverParts) (member streams : ℕ → Bool) (ends : ℕ → Told) (parts : StructureSets) (order : ℕ → ℕ → ℕ) (out : ℕ → List ℕ)
    → (k : IsAtOpen p.driver p.memory member streams ends parts order out) → DrivesRing base member parts hand (place w p.registers p.memory) p.driver
    → DrivesRing base (with_member member (32 * k.lent.endpoint.queue)) (head_then parts k.queue k.lent.endpoint) (hand_then hand k.lent.endpoint)
    (place w (next_of p).registers (next_of p).memory) (next_of p).driver

-- the bus of the script has a sender for an IN endpoint, which no other endpoint asks
abbrev pub OpenPipes : {W : Type 0} → (W → ℕ → ℕ → Option Sender) → Type 0
OpenPipes {W} sender = (stream : ℕ → ℕ → Bool) (packets : ℕ → ℕ → List (List ℕ)) (acc : ℕ → List (List ℕ)) (wire : W) (base : Base) (w : Walk) (hand : Hand) (p : DriverParts)
    (member streams : ℕ → Bool)
    (ends : ℕ → Told) (parts : StructureSets) (order : ℕ → ℕ → ℕ) (out : ℕ → List ℕ) → (k : IsAtOpen p.driver p.memory member streams ends parts order out)
    → DrivesRing base member parts hand (place w p.registers p.memory) p.driver → AreNamesApart p.driver
    → (comes_in k.lent.endpoint.desc.name.way ≡ true → stream k.lent.endpoint.desc.name.addr k.lent.endpoint.desc.name.num ≡ true)
    → AreEndpoints stream member streams ends → AreUnopened stream packets sender streams ends wire → ArePiped stream packets sender member streams ends acc parts hand wire
    → AreEndpoints stream (with_member member (32 * k.lent.endpoint.queue)) (streams_then streams k.lent.endpoint) (with_end ends (32 * k.lent.endpoint.queue) (end_then k.lent.endpoint))
    × ArePiped stream packets sender (with_member member (32 * k.lent.endpoint.queue)) (streams_then streams k.lent.endpoint)
    (with_end ends (32 * k.lent.endpoint.queue) (end_then k.lent.endpoint))
    (with_none acc (32 * k.lent.endpoint.queue)) (head_then parts k.queue k.lent.endpoint) (hand_then hand k.lent.endpoint) wire
    × AreUnopened stream packets sender (streams_then streams k.lent.endpoint) (with_end ends (32 * k.lent.endpoint.queue) (end_then k.lent.endpoint)) wire

-- of each of these queue heads, of any endpoint, the report is right, and so it is of the new one
abbrev pub OpenReports : Type 0
OpenReports = (acc : ℕ → List (List ℕ)) (reported : ℕ → List ℕ) (heads : ℕ → Bool) (base : Base) (w : Walk) (hand : Hand) (p : DriverParts) (member streams : ℕ → Bool) (ends : ℕ → Told)
    (parts : StructureSets) (order : ℕ → ℕ → ℕ) (out : ℕ → List ℕ) → (k : IsAtOpen p.driver p.memory member streams ends parts order out)
    → DrivesRing base member parts hand (place w p.registers p.memory) p.driver
    → ((n : ℕ) → heads n ≡ true → HasThere p.driver n) → AreReported heads order out hand parts acc reported
    → AreReported (with_stream heads (32 * k.lent.endpoint.queue)) order (with_none out (32 * k.lent.endpoint.queue)) (hand_then hand k.lent.endpoint) (head_then parts k.queue k.lent.endpoint)
    (with_none acc (32 * k.lent.endpoint.queue)) (with_none reported (32 * k.lent.endpoint.queue))

abbrev pub OpenStands : Type 0
OpenStands = (p : DriverParts) (member streams : ℕ → Bool) (ends : ℕ → Told) (parts : StructureSets) (order : ℕ → ℕ → ℕ) (out : ℕ → List ℕ)
    → (k : IsAtOpen p.driver p.memory member streams ends parts order out)
    → QueuesThen (next_of p).driver (with_member member (32 * k.lent.endpoint.queue)) (streams_then streams k.lent.endpoint)
    (with_end ends (32 * k.lent.endpoint.queue) (end_then k.lent.endpoint))
    (head_then parts k.queue k.lent.endpoint) order (with_none out (32 * k.lent.endpoint.queue))
