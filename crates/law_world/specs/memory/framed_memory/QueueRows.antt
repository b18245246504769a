-- Rows of a driver over endpoints with queues, where the controller walks a ring and the frames (EHCI 1.0, 3.5, 3.6, 4.6, 4.8 and 4.10): the queue head of an
-- interrupt endpoint stands in frames, and its qTDs are lent, stored and given back as those of the others.
--     chained_runs, chained_head, ChainIsReady    an accepted open of an interrupt endpoint has its queue head, with its masks and its link, and the inactive qTD ready to
--                             be lent
--     CancelKeepsNow, UnchainKeepsNow    an endpoint of the ring, or a periodic one, is cancelled: nothing is unlinked yet
--     OpenKeepsNow, TransferKeepsNow      an open of an endpoint of the ring, or a get, put or request, is accepted: what it takes is written where the driver alone may touch it
--     LendOpenKeepsNow        the queue head of a new endpoint, with the inactive qTD at the end of its queue, is lent: nothing leads to it yet
--     LendTransferKeepsNow    the qTDs of a transfer, with their buffers, are lent: nothing leads to them yet
--     PublishKeepsNow         a word of a qTD that is published is stored, also in a queue that the walk of the frames may meet
--     ReleaseTransferKeepsNow the qTDs and buffers of a transfer that was harvested are given back, where nothing that stays leads to them or needs them
use Rattle.std.specs.Prelude.{◌≡◌, slice_index, length, ℕ, suc, ◌*◌, ◌<◌, List, Bool, true, Option, Some, Ok}
use Rattle.usb_base.specs.declared.commands.Cmd.{Cmd}
use Rattle.usb_base.specs.declared.endpoints.EpDesc.{EpDesc}
use Rattle.word_mem.specs.Memory.{Mem, IsShaped}
use Rattle.bandwidth.specs.declared.placements.Placement.{Placement}
use Rattle.drv_periodic_table.specs.Periodic.{queue_member}
use Rattle.drv_periodic_table.specs.Linking.{new_link}
use Rattle.qh_qtd.specs.declared.qtd.Qtd.{Qtd}
use Rattle.qh_qtd.specs.Qtd.{IsQtdInRange}
use Rattle.qh_qtd.specs.QueueHead.{IsQhInRange}
use Rattle.mem_runs.specs.Book.{Holding, holding, slot_of, Stands}
use Rattle.drv_table.specs.Words.{interrupt_head}
use Rattle.drv_table.specs.Accepting.{Offered, new_runs}
use Rattle.drv_table.specs.Offers.{IsOffered, offered, placed_endpoint}
use Rattle.law_driver.specs.run_owners.Accepts.{Chains, Opens, Transfers, Cancels, Unchains}
use Rattle.claims_driver.specs.Leaving.{HasOwners}
use Rattle.claims_driver.specs.LentRuns.{AreLent}
use Rattle.qh_qtd.specs.declared.queue_head.Qh.{Qh}
use Rattle.drv_table.specs.declared.content.Command.TheVariants as unfinished
use Rattle.drv_table.specs.declared.content.Stage.{Stage}
use Rattle.drv_table.specs.declared.content.Transfer.{Transfer}
use Rattle.drv_table.specs.declared.rows.DriverRow.TheVariants as rows
use Rattle.drv_table.specs.DriverContent.{DriverContent}
use Rattle.drv_table.specs.Rows.{driver_row}
use Rattle.claims_driver.specs.Owners.{EndpointRuns, TransferRuns, runs_of_endpoint}
use Rattle.hc_core.specs.Controller.{Content}
use Rattle.law_structures.specs.lent_structures.Structures.{QueueHead, Element, StructureSets, put}
use Rattle.law_ring.specs.Hand.{Hand}
use Rattle.claims_base.specs.Controller.{Base}
use Rattle.law_ring.specs.Together.{put_all}
use Rattle.law_ring.specs.Fewer.{without_those, MayGo}
use Rattle.law_driver_ring.specs.LendOpened.{IsOpened, opened_parts}
use Rattle.law_driver_ring.specs.Published.{partly, publish_row, IsPublishable}
use Rattle.law_driver_ring.specs.Written.{AwaitsLend}
use Rattle.law_driver_ring.specs.Pieces.{NamesLent}
use Rattle.law_driver_ring.specs.TransferLaws.{items_of}
use Rattle.law_driver_ring.specs.Released.{goes_of, IsToGo}
use Rattle.law_queues.specs.shared_memory.Shared.{parts_of}
use Rattle.law_frames.specs.Met.{Kind, AQueue}
use Rattle.law_frames.specs.FrameHand.{FrameHand}
use Rattle.law_descriptors.specs.Told.{with_memory}
use Rattle.law_descriptors.specs.Meeting.{met}
use Rattle.law_world.specs.memory.framed_memory.Now.{IsFramedNow, FramedNext}

abbrev pub chained_runs : DriverContent → EpDesc → Placement → Holding → EndpointRuns
chained_runs d x p g = runs_of_endpoint (placed_endpoint x p (slice_index (new_runs d g) 0) (slice_index (new_runs d g) 1))

abbrev pub chained_head : DriverContent → EpDesc → Placement → Holding → Qh
chained_head d x p g =
    interrupt_head x p.smask p.cmask (new_link d.periodic.list (queue_member (slice_index (new_runs d g) 0) p)) (slice_index (new_runs d g) 1)

abbrev pub ChainIsReady : Type 0
ChainIsReady = (m : Mem) (d : DriverContent) (o : Offered) → (why : Chains d m o) → HasOwners d → AreLent d → Stands (holding d.book m) → IsShaped m
    → IsQhInRange (chained_head d why.desc why.placement why.holding_after)
    → IsOpened o.driver o.memory (length d.endpoints) (chained_runs d why.desc why.placement why.holding_after) (chained_head d why.desc why.placement why.holding_after)

-- ---- accepted commands

abbrev pub OpenKeepsNow : Type 0
OpenKeepsNow = (base : Base) (member : ℕ → Bool) (recent : ℕ → Option Kind) (descs parts : StructureSets) (hand : Hand) (frame : FrameHand) (c : Content) (d : DriverContent) (cmd : Cmd)
    (o : Offered) → IsFramedNow base member recent descs parts hand frame c d → Opens d c.memory o → IsOffered d.room cmd → offered d c.memory cmd ≡ Ok o
    → IsFramedNow base member recent descs parts hand frame (with_memory c o.memory) o.driver

-- a get, a put or a request, of any endpoint with a queue, also of an interrupt endpoint
abbrev pub TransferKeepsNow : Type 0
TransferKeepsNow = (base : Base) (member : ℕ → Bool) (recent : ℕ → Option Kind) (descs parts : StructureSets) (hand : Hand) (frame : FrameHand) (c : Content) (d : DriverContent) (cmd : Cmd)
    (o : Offered) → IsFramedNow base member recent descs parts hand frame c d → Transfers d c.memory o → IsOffered d.room cmd → offered d c.memory cmd ≡ Ok o
    → IsFramedNow base member recent descs parts hand frame (with_memory c o.memory) o.driver

abbrev pub CancelKeepsNow : Type 0
CancelKeepsNow = (base : Base) (member : ℕ → Bool) (recent : ℕ → Option Kind) (descs parts : StructureSets) (hand : Hand) (frame : FrameHand) (c : Content) (d : DriverContent) (cmd : Cmd)
    (o : Offered) → IsFramedNow base member recent descs parts hand frame c d → Cancels d c.memory o → IsOffered d.room cmd → offered d c.memory cmd ≡ Ok o
    → IsFramedNow base member recent descs parts hand frame (with_memory c o.memory) o.driver

-- of an interrupt endpoint, or of an isochronous one
abbrev pub UnchainKeepsNow : Type 0
UnchainKeepsNow = (base : Base) (member : ℕ → Bool) (recent : ℕ → Option Kind) (descs parts : StructureSets) (hand : Hand) (frame : FrameHand) (c : Content) (d : DriverContent) (cmd : Cmd)
    (o : Offered) → IsFramedNow base member recent descs parts hand frame c d → Unchains d c.memory o → IsOffered d.room cmd → offered d c.memory cmd ≡ Ok o
    → IsFramedNow base member recent descs parts hand frame (with_memory c o.memory) o.driver

-- ---- rows

abbrev pub LendOpenKeepsNow : Type 0
LendOpenKeepsNow = (base : Base) (member : ℕ → Bool) (recent : ℕ → Option Kind) (descs parts : StructureSets) (hand : Hand) (frame : FrameHand) (c : Content) (d : DriverContent) (e : ℕ)
    (x : EndpointRuns) (q : Qh) → IsFramedNow base member recent descs parts hand frame c d → driver_row (parts_of c d) ≡ rows.Lend → IsOpened d c.memory e x q
    → FramedNext base member recent descs (opened_parts parts x q) hand frame c d

abbrev pub LendTransferKeepsNow : Type 0
LendTransferKeepsNow = (base : Base) (member : ℕ → Bool) (recent : ℕ → Option Kind) (descs parts : StructureSets) (hand : Hand) (frame : FrameHand) (c : Content) (d : DriverContent) (t : ℕ)
    (y : TransferRuns) (x : EndpointRuns) (s : Stage) (ss : List Stage) → IsFramedNow base member recent descs parts hand frame c d → driver_row (parts_of c d) ≡ rows.Lend
    → AwaitsLend d c.memory t y x s ss → NamesLent (slot_of d.book.slots) (parts (32 * x.queue))
    → FramedNext base member recent descs (put_all parts (32 * x.queue) (items_of d c.memory y x s ss)) hand frame c d

-- the words come one after the other, the token last
abbrev pub PublishKeepsNow : Type 0
PublishKeepsNow = (base : Base) (member : ℕ → Bool) (recent : ℕ → Option Kind) (descs parts : StructureSets) (hand : Hand) (frame : FrameHand) (c : Content) (d : DriverContent) (n b : ℕ)
    (words : List ℕ) (t : Qtd) (k : ℕ) → IsFramedNow base member recent descs parts hand frame c d → d.command ≡ Some (unfinished.Publish b words)
    → driver_row (parts_of c d) ≡ publish_row b t k → k < 8 → parts n (32 * b) ≡ Some (Element (partly t k)) → IsQtdInRange t
    → (member n ≡ true → IsPublishable (parts n) (32 * b) t) → (met d recent n ≡ Some AQueue → IsPublishable (parts n) (32 * b) t)
    → FramedNext base member recent descs (put parts n (32 * b) (Element (partly t (suc k)))) hand frame c d

abbrev pub ReleaseTransferKeepsNow : Type 0
ReleaseTransferKeepsNow = (base : Base) (member : ℕ → Bool) (recent : ℕ → Option Kind) (descs parts : StructureSets) (hand : Hand) (frame : FrameHand) (c : Content) (d : DriverContent) (t : ℕ)
    (y : Transfer) (x : EndpointRuns) → IsFramedNow base member recent descs parts hand frame c d → driver_row (parts_of c d) ≡ rows.ReleaseTransfer t → IsToGo d t y x
    → (member (32 * x.queue) ≡ true → (q : Qh) → parts (32 * x.queue) (32 * x.queue) ≡ Some (QueueHead q) → MayGo (goes_of d y) (32 * x.queue) (parts (32 * x.queue)) q)
    → (met d recent (32 * x.queue) ≡ Some AQueue → (q : Qh) → parts (32 * x.queue) (32 * x.queue) ≡ Some (QueueHead q) → MayGo (goes_of d y) (32 * x.queue) (parts (32 * x.queue)) q)
    → FramedNext base member recent descs (without_those parts (32 * x.queue) (goes_of d y)) hand frame c d
