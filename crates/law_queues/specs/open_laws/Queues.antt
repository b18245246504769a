-- An open, by what is told of the driver's queues alone: whatever is to lead to the new queue head, the head of the ring or frames, is not spoken of (EHCI 1.0, 3.5,
-- 3.6, 4.8.1 and 4.10).
--     RestsAt q a              the queue head q isn't active, and leads to no qTD but that at a
--     IsNewPart x part         the endpoint's queue head stands in its part, and rests at the inactive qTD, which is its only one
--     IsOpenToLend d m         the newest endpoint's queue head and inactive qTD are all that is to be lent
--     IsOpenThere d parts      they stand, while the open is unfinished
--     parts_opened k parts     the structures with both
--     open_lent d m            the content once they are lent
--     open_finished d          the content once the open is finished
--     OpenLendStands           the law of the lend
--     OpenLendIsMade           the content after the driver's event
--     OpenFinishes             the law of the end: the new queue head is one of those that are met, and nothing of it is out
--     HeadKeepsQueues          what is told of the queues stays where a queue head stands in the place of one, as where its link is stored
--     NewHeadsRest             those that a driver writes, for the ring and for frames, rest so
use Rattle.std.specs.Prelude.{◌≡◌, ◌≢◌, ℕ, ◌*◌, Bool, true, false, List, slice_get, Some, None}
use Rattle.usb_base.specs.declared.endpoints.EpDesc.{EpDesc}
use Rattle.word_mem.specs.Memory.{Mem}
use Rattle.link_words.specs.declared.kinds.QtdLink.TheVariants as qtd_links
use Rattle.link_words.specs.Links.{qtd_link_of}
use Rattle.qh_qtd.specs.declared.qtd.Qtd.{Qtd}
use Rattle.qh_qtd.specs.declared.queue_head.Qh.{Qh}
use Rattle.hc_copy.specs.Visits.{next_pointer}
use Rattle.mem_runs.specs.Book.{holding, lend_taken}
use Rattle.drv_table.specs.declared.content.Endpoint.{Endpoint}
use Rattle.drv_table.specs.declared.content.Transfer.{Transfer}
use Rattle.drv_table.specs.declared.content.Command.TheVariants as unfinished
use Rattle.drv_table.specs.declared.rows.DriverRow.TheVariants as rows
use Rattle.drv_table.specs.DriverContent.{DriverContent}
use Rattle.drv_table.specs.Parts.{Parts as DriverParts}
use Rattle.drv_table.specs.Rows.{after_driver_row}
use Rattle.drv_table.specs.Words.{queue_head, interrupt_head, dummy_qtd}
use Rattle.claims_driver.specs.Leaving.{HasOwners}
use Rattle.claims_driver.specs.Owners.{runs_of_endpoint, views_of}
use Rattle.law_structures.specs.lent_structures.Structures.{QueueHead, Element, Structures, StructureSets, put}
use Rattle.law_ring.specs.Told.{Endpoint as Told}
use Rattle.law_driver_ring.specs.Inventory.{sorts_of, IsDriven}
use Rattle.law_driver_ring.specs.LendOpened.{IsOpened, opened_parts}
use Rattle.law_driver_ring.specs.Linked.{with_member}
use Rattle.law_controller.specs.controlled_streams.Opened.{with_end, with_none}
use Rattle.law_driver.specs.chained_transfers.AsynchronousTurns.{AsynchronousTakesTurns}
use Rattle.law_queues.specs.publish_laws.Stores.{QueuesThen}
use Rattle.law_queues.specs.open_laws.Opens.{end_then, streams_then}

pub record RestsAt (q : Qh) (a : ℕ) : Type 0 where
  pub idle : q.token.active ≡ false
  pub leads : (b : ℕ) → qtd_link_of (next_pointer q) ≡ qtd_links.To b → b ≡ a

pub record IsNewPart (x : Endpoint) (part : Structures) : Type 0 where
  pub queue : Qh
  pub here : part (32 * x.queue) ≡ Some (QueueHead queue)
  pub rests : RestsAt queue (32 * x.dummy)
  pub dummy : part (32 * x.dummy) ≡ Some (Element dummy_qtd)
  pub only : (a : ℕ) (t : Qtd) → part a ≡ Some (Element t) → a ≡ 32 * x.dummy

-- its event is the next of the driver
pub record IsOpenToLend (d : DriverContent) (m : Mem) : Type 0 where
  pub number : ℕ
  pub endpoint : Endpoint
  pub here : slice_get d.endpoints number ≡ Some endpoint
  pub command : d.command ≡ Some (unfinished.Open endpoint.queue)
  pub made : d.made ≡ 0
  pub fresh : endpoint.linked ≡ true
  pub none : (t : ℕ) (y : Transfer) → slice_get d.transfers t ≡ Some y → y.endpoint ≢ number
  pub queue : Qh
  pub rests : RestsAt queue (32 * endpoint.dummy)
  pub opened : IsOpened d m number (runs_of_endpoint endpoint) queue

pub record IsOpenThere (d : DriverContent) (parts : StructureSets) : Type 0 where
  pub number : ℕ
  pub endpoint : Endpoint
  pub here : slice_get d.endpoints number ≡ Some endpoint
  pub command : d.command ≡ Some (unfinished.Open endpoint.queue)
  pub fresh : endpoint.linked ≡ true
  pub none : (t : ℕ) (y : Transfer) → slice_get d.transfers t ≡ Some y → y.endpoint ≢ number
  pub part : IsNewPart endpoint (parts (32 * endpoint.queue))

abbrev pub parts_opened : {d : DriverContent} {m : Mem} → IsOpenToLend d m → StructureSets → StructureSets
parts_opened k parts = opened_parts parts (runs_of_endpoint k.endpoint) k.queue

abbrev pub open_lent : DriverContent → Mem → DriverContent
open_lent d m = record d { book = (lend_taken (holding d.book m)).book; made = 1 }

abbrev pub open_finished : DriverContent → DriverContent
open_finished d = record d { command = None; made = 0 }

abbrev pub OpenLendStands : Type 0
OpenLendStands = (d : DriverContent) (m : Mem) (member streams : ℕ → Bool) (ends : ℕ → Told) (parts : StructureSets) (order : ℕ → ℕ → ℕ) (out : ℕ → List ℕ) → HasOwners d
    → AsynchronousTakesTurns d → IsDriven (views_of d) (sorts_of parts) → QueuesThen d member streams ends parts order out → (k : IsOpenToLend d m)
    → QueuesThen (open_lent d m) member streams ends (parts_opened k parts) order out × IsOpenThere (open_lent d m) (parts_opened k parts)

abbrev pub OpenLendIsMade : Type 0
OpenLendIsMade = (p : DriverParts) → IsOpenToLend p.driver p.memory → (after_driver_row rows.Lend p).driver ≡ open_lent p.driver p.memory

-- whatever leads to it by then
abbrev pub OpenFinishes : Type 0
OpenFinishes = (d : DriverContent) (member streams : ℕ → Bool) (ends : ℕ → Told) (parts : StructureSets) (order : ℕ → ℕ → ℕ) (out : ℕ → List ℕ) → HasOwners d
    → AsynchronousTakesTurns d → (k : IsOpenThere d parts) → QueuesThen d member streams ends parts order out
    → QueuesThen (open_finished d) (with_member member (32 * k.endpoint.queue)) (streams_then streams k.endpoint) (with_end ends (32 * k.endpoint.queue) (end_then k.endpoint)) parts order
    (with_none out (32 * k.endpoint.queue))

-- while no transfer is being published
abbrev pub HeadKeepsQueues : Type 0
HeadKeepsQueues = (d : DriverContent) (member streams : ℕ → Bool) (ends : ℕ → Told) (parts : StructureSets) (order : ℕ → ℕ → ℕ) (out : ℕ → List ℕ) (n : ℕ) (old new : Qh)
    → parts n n ≡ Some (QueueHead old) → ((b : ℕ) (words : List ℕ) → d.command ≢ Some (unfinished.Publish b words)) → QueuesThen d member streams ends parts order out
    → QueuesThen d member streams ends (put parts n n (QueueHead new)) order out

abbrev pub NewHeadsRest : Type 0
NewHeadsRest = (x : EpDesc) (smask cmask link dummy : ℕ) → RestsAt (queue_head x link dummy) (32 * dummy) × RestsAt (interrupt_head x smask cmask link dummy) (32 * dummy)
