-- The store by which a cancelled endpoint's queue head leaves the ring (EHCI 1.0, 4.8.2): the queue head before it leads past it then. The walk may still meet
-- it, until the doorbell was answered, so all that is told of the queue heads stays.
--     IsAtUnlink d member parts     the next event of the driver is that store
--     driver_then, parts_unlinked, hand_unlinked     the driver's content, the structures and what is in hand after it
--     MeetsRing d member            the walk may meet the head of the ring, and each queue head in it
--     IsUnlinked ..                 which row it is, and what the driver's content is after it
--     UnlinkStands, UnlinkRow, UnlinkMeetsRing, UnlinkLeavesRing, UnlinkLeavesPipes, UnlinkLeavesOutPipes, UnlinkLeavesReports, UnlinkLeavesSent, UnlinkSparesHeads,
--     UnlinkSparesElements, UnlinkSparesHand, UnlinkLeavesFronts, UnlinkLeavesQueues     the laws
use Rattle.std.specs.Prelude.{◌≡◌, ◌≢◌, ℕ, ◌*◌, Bool, true, false, List, [], ◌∷◌, ◌++◌, slice_get, slice_set, Option, Some, None}
use Rattle.word_mem.specs.Memory.{Mem}
use Rattle.qh_qtd.specs.declared.queue_head.Qh.{Qh}
use Rattle.async_walk.specs.Walk.{Walk}
use Rattle.async_walk.specs.Rows.{place}
use Rattle.mem_runs.specs.Book.{slot_of, can_store}
use Rattle.drv_table.specs.declared.content.Endpoint.{Endpoint}
use Rattle.drv_table.specs.declared.content.Command.TheVariants as unfinished
use Rattle.drv_table.specs.declared.rows.DriverRow.TheVariants as rows
use Rattle.drv_table.specs.DriverContent.{DriverContent}
use Rattle.drv_table.specs.Parts.{Parts as DriverParts}
use Rattle.drv_table.specs.Rows.{driver_row}
use Rattle.drv_table.specs.Words.{head_block, to_queue_head, queue_head_link}
use Rattle.law_driver.specs.in_place.InPlace.{IsSound}
use Rattle.law_structures.specs.lent_structures.Structures.{QueueHead, StructureSets, put, Tells}
use Rattle.law_ring.specs.Hand.{Hand}
use Rattle.claims_base.specs.Controller.{Base}
use Rattle.law_ring.specs.Stores.{hand_linked}
use Rattle.law_ring.specs.Told.{Endpoint as Told}
use Rattle.law_ring.specs.Streams.{AreMembers}
use Rattle.law_ring.specs.Sparing.{SameHand, SparesHead, SparesElement}
use Rattle.law_driver_ring.specs.Driven.{DrivesRing}
use Rattle.law_ring.specs.Bus.{Sender}
use Rattle.law_ring.specs.Pipes.{ArePiped}
use Rattle.law_ring.specs.OutBus.{Taker}
use Rattle.law_controller.specs.controlled_streams.Reported.{AreReported}
use Rattle.law_queues.specs.publish_laws.Stores.{QueuesThen, next_of}
use Rattle.law_queues.specs.whole_sends.Whole.{AreSentWhole}
use Rattle.law_queues.specs.standing_fronts.Reaching.{Reaches}
use Rattle.law_world.specs.steps.Outs.{AreOutPiped}

-- the queue head `queue` in block `before` leads to that of the endpoint, and this one, `own`, to the one in block `after`
pub record IsAtUnlink (d : DriverContent) (member : ℕ → Bool) (parts : StructureSets) : Type 0 where
  pub number : ℕ
  pub endpoint : Endpoint
  pub here : slice_get d.endpoints number ≡ Some endpoint
  pub linked : endpoint.linked ≡ true
  pub cancelled : endpoint.cancelled ≡ true
  pub before : ℕ
  pub after : ℕ
  pub command : d.command ≡ Some (unfinished.Unlink number before (queue_head_link after))
  pub made : d.made ≡ 0
  pub can : can_store (slot_of d.book.slots before) (32 * before) ≡ true
  pub met : member (32 * before) ≡ true
  pub queue : Qh
  pub head : parts (32 * before) (32 * before) ≡ Some (QueueHead queue)
  pub leads : queue.link ≡ to_queue_head endpoint.queue
  pub own : Qh
  pub there : parts (32 * endpoint.queue) (32 * endpoint.queue) ≡ Some (QueueHead own)
  pub onward : own.link ≡ to_queue_head after

-- ---- what stands after it

-- endpoint e is in the ring no more, and waits for the doorbell
abbrev pub driver_then : DriverContent → ℕ → Endpoint → DriverContent
driver_then d e x = record d { endpoints = slice_set d.endpoints e (record x { linked = false }); command = None; made = 0; waiting = d.waiting ++ e ∷ [] }

abbrev pub parts_unlinked : StructureSets → ℕ → Qh → ℕ → StructureSets
parts_unlinked parts before q after = put parts (32 * before) (32 * before) (QueueHead (record q { link = to_queue_head after }))

abbrev pub hand_unlinked : Hand → ℕ → ℕ → Hand
hand_unlinked hand before after = hand_linked (32 * before) (to_queue_head after) hand

-- ---- of every driver

pub record MeetsRing (d : DriverContent) (member : ℕ → Bool) : Type 0 where
  pub head : member (32 * head_block) ≡ true
  pub each : (e : ℕ) (x : Endpoint) → slice_get d.endpoints e ≡ Some x → x.linked ≡ true → member (32 * x.queue) ≡ true

-- the words of the ring tell which queue heads these are
abbrev pub UnlinkStands : Type 0
UnlinkStands = (d : DriverContent) (m : Mem) (member : ℕ → Bool) (parts : StructureSets) (e before link : ℕ) → d.command ≡ Some (unfinished.Unlink e before link) → d.made ≡ 0
    → IsSound m d → Tells m parts → MeetsRing d member → AreMembers member parts → IsAtUnlink d member parts

-- ---- the row

pub record IsUnlinked (p : DriverParts) (e : ℕ) (x : Endpoint) (before after : ℕ) : Type 0 where
  pub row : driver_row p ≡ rows.Store before (32 * before) (queue_head_link after)
  pub driver : (next_of p).driver ≡ driver_then p.driver e x
  pub left : slice_get (next_of p).driver.endpoints e ≡ Some (record x { linked = false })
  pub others : (f : ℕ) → f ≢ e → slice_get (next_of p).driver.endpoints f ≡ slice_get p.driver.endpoints f
  pub last : (next_of p).driver.waiting ≡ p.driver.waiting ++ e ∷ []
  pub done : (next_of p).driver.command ≡ None

abbrev pub UnlinkRow : Type 0
UnlinkRow = (p : DriverParts) (member : ℕ → Bool) (parts : StructureSets) → (k : IsAtUnlink p.driver member parts) → IsUnlinked p k.number k.endpoint k.before k.after

abbrev pub UnlinkMeetsRing : Type 0
UnlinkMeetsRing = (p : DriverParts) (member : ℕ → Bool) (parts : StructureSets) → IsAtUnlink p.driver member parts → MeetsRing p.driver member → MeetsRing (next_of p).driver member

-- ---- the ring

abbrev pub UnlinkLeavesRing : Type 0
UnlinkLeavesRing = (base : Base) (w : Walk) (hand : Hand) (p : DriverParts) (member : ℕ → Bool) (parts : StructureSets) → (k : IsAtUnlink p.driver member parts)
    → DrivesRing base member parts hand (place w p.registers p.memory) p.driver
    → DrivesRing base member (parts_unlinked parts k.before k.queue k.after) (hand_unlinked hand k.before k.after) (place w (next_of p).registers (next_of p).memory) (next_of p).driver

-- ---- streams

abbrev pub UnlinkLeavesPipes : {W : Type 0} → (W → ℕ → ℕ → Option Sender) → Type 0
UnlinkLeavesPipes {W} sender = (stream : ℕ → ℕ → Bool) (packets : ℕ → ℕ → List (List ℕ)) (streams : ℕ → Bool) (ends : ℕ → Told) (acc : ℕ → List (List ℕ)) (wire : W) (hand : Hand)
    (d : DriverContent) (member : ℕ → Bool) (parts : StructureSets) → (k : IsAtUnlink d member parts) → ArePiped stream packets sender member streams ends acc parts hand wire
    → ArePiped stream packets sender member streams ends acc (parts_unlinked parts k.before k.queue k.after) (hand_unlinked hand k.before k.after) wire

abbrev pub UnlinkLeavesOutPipes : {W : Type 0} → (W → ℕ → ℕ → Option Taker) → Type 0
UnlinkLeavesOutPipes {W} taker = (stream : ℕ → ℕ → Bool) (outs : ℕ → Bool) (ends : ℕ → Told) (known : ℕ → List ℕ) (wire : W) (hand : Hand) (d : DriverContent) (member : ℕ → Bool)
    (parts : StructureSets) → (k : IsAtUnlink d member parts) → AreOutPiped stream taker member outs ends known parts hand wire
    → AreOutPiped stream taker member outs ends known (parts_unlinked parts k.before k.queue k.after) (hand_unlinked hand k.before k.after) wire

abbrev pub UnlinkLeavesReports : Type 0
UnlinkLeavesReports = (heads : ℕ → Bool) (order : ℕ → ℕ → ℕ) (out : ℕ → List ℕ) (acc : ℕ → List (List ℕ)) (reported : ℕ → List ℕ) (hand : Hand) (d : DriverContent) (member : ℕ → Bool)
    (parts : StructureSets) → (k : IsAtUnlink d member parts) → AreReported heads order out hand parts acc reported
    → AreReported heads order out (hand_unlinked hand k.before k.after) (parts_unlinked parts k.before k.queue k.after) acc reported

abbrev pub UnlinkLeavesSent : Type 0
UnlinkLeavesSent = (n : ℕ) (order : ℕ → ℕ) (out : List ℕ) (hand : Hand) (d : DriverContent) (member : ℕ → Bool) (parts : StructureSets) → (k : IsAtUnlink d member parts)
    → AreSentWhole order out hand n (parts n) → AreSentWhole order out (hand_unlinked hand k.before k.after) n (parts_unlinked parts k.before k.queue k.after n)

-- ---- of every queue head the overlay, the qTDs and their buffers stay, and what is in hand tells the same

abbrev pub UnlinkSparesHeads : Type 0
UnlinkSparesHeads = (d : DriverContent) (member : ℕ → Bool) (parts : StructureSets) → (k : IsAtUnlink d member parts) (n : ℕ) → SparesHead parts (parts_unlinked parts k.before k.queue k.after) n

abbrev pub UnlinkSparesElements : Type 0
UnlinkSparesElements = (d : DriverContent) (member : ℕ → Bool) (parts : StructureSets) → (k : IsAtUnlink d member parts) (n e : ℕ)
    → SparesElement parts (parts_unlinked parts k.before k.queue k.after) n e

abbrev pub UnlinkSparesHand : Type 0
UnlinkSparesHand = (hand : Hand) (d : DriverContent) (member : ℕ → Bool) (parts : StructureSets) → (k : IsAtUnlink d member parts) → SameHand hand (hand_unlinked hand k.before k.after)

-- so do fronts and tails; the endpoint that leaves has its queue still
abbrev pub UnlinkLeavesFronts : Type 0
UnlinkLeavesFronts = (order : ℕ → ℕ) (out : List ℕ) (i c : ℕ) (x y : Endpoint) (p : DriverParts) (member : ℕ → Bool) (parts : StructureSets) → (k : IsAtUnlink p.driver member parts)
    → y.queue ≡ x.queue → Reaches p.driver (parts (32 * x.queue)) order out i x c
    → Reaches (next_of p).driver (parts_unlinked parts k.before k.queue k.after (32 * y.queue)) order out i y c

-- all that is told of the driver's queues
abbrev pub UnlinkLeavesQueues : Type 0
UnlinkLeavesQueues = (p : DriverParts) (member streams : ℕ → Bool) (ends : ℕ → Told) (parts : StructureSets) (order : ℕ → ℕ → ℕ) (out : ℕ → List ℕ) → (k : IsAtUnlink p.driver member parts)
    → QueuesThen p.driver member streams ends parts order out → QueuesThen (next_of p).driver member streams ends (parts_unlinked parts k.before k.queue k.after) order out
