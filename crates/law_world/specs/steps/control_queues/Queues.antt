-- Lends and opens of any queue of a driver, whatever leads to its queue head, the ring or frames (EHCI 1.0, 3.5, 3.6, 4.8.1, 4.10 and 4.10.2).
--     LendKeepsQueues          the lend of a transfer leaves what stands of control queues
--     IsOpenLentWhole ..       what stands once a new endpoint's structures are lent: its queue isn't met yet
--     OpenLendIsWhole          the law
--     IsOpenWhole ..           what stands once its open is finished: its front stands at its tail, the inactive qTD, and nothing of it is out
--     OpenIsWhole              the law
--     LinkKeepsControls        the link of a queue head may change
use Rattle.std.specs.Prelude.{◌≡◌, ◌≢◌, ℕ, ◌*◌, Bool, false, List, [], slice_get, Some}
use Rattle.word_mem.specs.Memory.{Mem}
use Rattle.link_words.specs.declared.fields.LinkBits.{LinkBits}
use Rattle.qh_qtd.specs.declared.queue_head.Qh.{Qh}
use Rattle.drv_table.specs.declared.content.Endpoint.{Endpoint}
use Rattle.drv_table.specs.DriverContent.{DriverContent}
use Rattle.claims_driver.specs.Leaving.{HasOwners}
use Rattle.claims_driver.specs.Owners.{views_of}
use Rattle.law_structures.specs.lent_structures.Structures.{QueueHead, StructureSets, put}
use Rattle.law_ring.specs.Front.{LinksRise}
use Rattle.law_ring.specs.Told.{Endpoint as Told}
use Rattle.law_driver_ring.specs.Inventory.{sorts_of, IsDriven}
use Rattle.law_driver_ring.specs.Linked.{with_member}
use Rattle.law_controller.specs.controlled_streams.Opened.{with_end, with_none}
use Rattle.law_driver.specs.chained_transfers.Asynchronous.{OnlyAsynchronous}
use Rattle.law_driver.specs.chained_transfers.AsynchronousTurns.{AsynchronousTakesTurns}
use Rattle.law_queues.specs.fed_lends.Commands.{QueuesStand}
use Rattle.law_queues.specs.fed_lends.ToLend.{IsToBeLent, lent_now}
use Rattle.law_queues.specs.released_queues.Fronts.{FrontsStand}
use Rattle.law_queues.specs.standing_fronts.Along.{LinksOfQueuesRise}
use Rattle.law_queues.specs.standing_fronts.Reaching.{Reaches}
use Rattle.law_queues.specs.standing_fronts.Tails.{TailsStand}
use Rattle.law_frames.specs.Met.{IsQueuePart}
use Rattle.law_queues.specs.lent_fronts.Stands.{AreSorted}
use Rattle.law_queues.specs.lent_fronts.Whole.{IsLentBehind}
use Rattle.law_queues.specs.open_laws.Opens.{end_then, streams_then}
use Rattle.law_queues.specs.open_laws.Queues.{IsOpenToLend, IsOpenThere, parts_opened, open_lent, open_finished}
use Rattle.law_world.specs.steps.control_queues.Controls.{ControlsStand}

-- ---- a transfer is lent

abbrev pub LendKeepsQueues : Type 0
LendKeepsQueues = (d : DriverContent) (m : Mem) (b : ℕ) (words : List ℕ) (member streams : ℕ → Bool) (ends : ℕ → Told) (parts now : StructureSets) (order order_now : ℕ → ℕ → ℕ) (out out_now : ℕ → List ℕ)
    → (k : IsToBeLent d m b words) → OnlyAsynchronous d → IsQueuePart (32 * k.endpoint.queue) (parts (32 * k.endpoint.queue)) → QueuesStand d member streams ends parts order out
    → QueuesStand (lent_now d m) member streams ends now order_now out_now → IsLentBehind d m parts now order order_now out out_now
    → ControlsStand d parts order out → ControlsStand (lent_now d m) now order_now out_now

-- ---- an endpoint is opened

pub record IsOpenLentWhole (d : DriverContent) (m : Mem) (queue : ℕ) (member streams : ℕ → Bool) (ends : ℕ → Told) (parts now : StructureSets) (order : ℕ → ℕ → ℕ) (out : ℕ → List ℕ) : Type 0 where
  pub queues : QueuesStand (open_lent d m) member streams ends now order out
  pub there : IsOpenThere (open_lent d m) now
  pub fronts : FrontsStand d parts order out → FrontsStand (open_lent d m) now order out
  pub sorted : AreSorted d order out → AreSorted (open_lent d m) order out
  pub controls : ControlsStand d parts order out → ControlsStand (open_lent d m) now order out
  pub rising : LinksOfQueuesRise d parts order → LinksOfQueuesRise (open_lent d m) now order
  pub tails : TailsStand d parts order out → TailsStand (open_lent d m) now order out
  pub reaches : (e : ℕ) (x : Endpoint) (c : ℕ) → 32 * x.queue ≢ queue → Reaches d (parts (32 * x.queue)) (order (32 * x.queue)) (out (32 * x.queue)) e x c
      → Reaches (open_lent d m) (now (32 * x.queue)) (order (32 * x.queue)) (out (32 * x.queue)) e x c

abbrev pub OpenLendIsWhole : Type 0
OpenLendIsWhole = (d : DriverContent) (m : Mem) (member streams : ℕ → Bool) (ends : ℕ → Told) (parts : StructureSets) (order : ℕ → ℕ → ℕ) (out : ℕ → List ℕ) → HasOwners d
    → AsynchronousTakesTurns d → IsDriven (views_of d) (sorts_of parts) → QueuesStand d member streams ends parts order out → (k : IsOpenToLend d m)
    → IsOpenLentWhole d m (32 * k.endpoint.queue) member streams ends parts (parts_opened k parts) order out

pub record IsOpenWhole (d : DriverContent) (number : ℕ) (x : Endpoint) (member streams : ℕ → Bool) (ends : ℕ → Told) (parts : StructureSets) (order : ℕ → ℕ → ℕ) (out : ℕ → List ℕ) : Type 0 where
  pub queues : QueuesStand (open_finished d) (with_member member (32 * x.queue)) (streams_then streams x) (with_end ends (32 * x.queue) (end_then x)) parts order (with_none out (32 * x.queue))
  pub fronts : FrontsStand d parts order out → FrontsStand (open_finished d) parts order (with_none out (32 * x.queue))
  pub sorted : AreSorted d order out → AreSorted (open_finished d) order (with_none out (32 * x.queue))
  pub controls : ControlsStand d parts order out → ControlsStand (open_finished d) parts order (with_none out (32 * x.queue))
  pub rising : LinksOfQueuesRise d parts order → LinksOfQueuesRise (open_finished d) parts order
  pub tails : TailsStand d parts order out → TailsStand (open_finished d) parts order (with_none out (32 * x.queue))
  -- of the new queue
  pub empty : with_none out (32 * x.queue) (32 * x.queue) ≡ []
  pub rises : LinksRise (order (32 * x.queue)) (parts (32 * x.queue))
  pub reached : Reaches (open_finished d) (parts (32 * x.queue)) (order (32 * x.queue)) (with_none out (32 * x.queue) (32 * x.queue)) number x (32 * x.dummy)
  pub front : reached.stands.front ≡ order (32 * x.queue) (32 * x.dummy)
  -- of each other one
  pub reaches : (e : ℕ) (y : Endpoint) (c : ℕ) → 32 * y.queue ≢ 32 * x.queue → Reaches d (parts (32 * y.queue)) (order (32 * y.queue)) (out (32 * y.queue)) e y c
      → Reaches (open_finished d) (parts (32 * y.queue)) (order (32 * y.queue)) (with_none out (32 * x.queue) (32 * y.queue)) e y c
  pub apart : (e : ℕ) (y : Endpoint) → slice_get d.endpoints e ≡ Some y → y.gone ≡ false → e ≢ number → 32 * y.queue ≢ 32 * x.queue

abbrev pub OpenIsWhole : Type 0
OpenIsWhole = (d : DriverContent) (member streams : ℕ → Bool) (ends : ℕ → Told) (parts : StructureSets) (order : ℕ → ℕ → ℕ) (out : ℕ → List ℕ) → HasOwners d → AsynchronousTakesTurns d
    → (k : IsOpenThere d parts) → QueuesStand d member streams ends parts order out → IsOpenWhole d k.number k.endpoint member streams ends parts order out

abbrev pub LinkKeepsControls : Type 0
LinkKeepsControls = (d : DriverContent) (parts : StructureSets) (order : ℕ → ℕ → ℕ) (out : ℕ → List ℕ) (n : ℕ) (q : Qh) (l : LinkBits) → parts n n ≡ Some (QueueHead q)
    → ControlsStand d parts order out → ControlsStand d (put parts n n (QueueHead (record q { link = l }))) order out
