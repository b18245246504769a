-- The open of an interrupt endpoint, where the controller walks a ring and the frames (EHCI 1.0, 3.6, 4.6, 4.10 and 4.12.2): its queue head and the inactive qTD at the
-- end of its queue are written, lent, and linked in its frames by one store after the other.
--     ChainKeepsNow           the open is accepted: what it takes is written where the driver alone may touch it, and none of its frames leads to it yet
--     chained_queue x p link  the queue head of the endpoint, with the masks of its placement and this link word
--     IsChainReady d m        both stand in runs that are to be lent, and what is to be linked is the queue head
--     ChainBecomesReady, ChainReadyStays     so it is once the open was accepted, and as long as what isn't Lent stays
--     chained_parts parts k   the structures with both
--     IsChainLent d member recent parts      both were lent, and the queue head is being linked: it is none of the ring, wasn't unlinked in this microframe, and before the
--                             first of its stores no word leads to it and nothing of it has changed
--     ChainIsLent .., ChainLends      so it is once both were lent
--     ChainComesFirst         the queue head has all that its first store asks for
--     ChainStaysLent          an event of the controller keeps it
--     ChainLinksOn            so does each of its stores that isn't the last
--     ChainStands d m ..      an unfinished open of an interrupt endpoint is as it was accepted, or as it was lent
--     NewChainStands, AcceptedChainStands, OtherChainStands, ChainStandsBeside     so it is of a driver that was just built, of each accepted command, after an event
--                             of any other command, and after an event of the controller
--     ChainGoesOn .., ChainGoesOnNow     the driver's next event of such an open: a lend, a store of its frame list, or none
--     ChainedHeadIsInRange    the fields of the queue head are in their ranges, where those of the endpoint and of its placement are
use Rattle.std.specs.Prelude.{◌≡◌, ◌⊎◌, ℕ, ◌*◌, ◌≤◌, Bool, true, false, List, slice_get, Option, Some, None, Ok}
use Rattle.usb_base.specs.declared.commands.Cmd.{Cmd}
use Rattle.usb_base.specs.declared.endpoints.EpDesc.{EpDesc}
use Rattle.usb_base.specs.declared.packets.Ask.{Ask}
use Rattle.usb_base.specs.declared.packets.Reply.{Reply}
use Rattle.word_mem.specs.Memory.{Mem, word_at, reaches}
use Rattle.qh_qtd.specs.declared.queue_head.Qh.{Qh}
use Rattle.qh_qtd.specs.QueueHead.{IsQhInRange}
use Rattle.bandwidth.specs.declared.placements.Placement.{Placement}
use Rattle.mem_runs.specs.Book.{holding, Stands}
use Rattle.drv_periodic.specs.declared.work.Work.{Work}
use Rattle.drv_periodic.specs.Periodic.{begun, is_more}
use Rattle.drv_periodic_table.specs.Periodic.{queue_member}
use Rattle.drv_table.specs.declared.content.Endpoint.{Endpoint}
use Rattle.drv_table.specs.declared.content.Reserve.{Reserve}
use Rattle.drv_table.specs.declared.content.Command.TheVariants as unfinished
use Rattle.drv_table.specs.declared.rows.DriverRow.TheVariants as rows
use Rattle.drv_table.specs.DriverContent.{DriverContent}
use Rattle.drv_table.specs.Accepting.{Offered}
use Rattle.drv_table.specs.Offers.{IsOffered, offered}
use Rattle.drv_table.specs.Opening.{opening}
use Rattle.drv_table.specs.Rows.{driver_row}
use Rattle.drv_table.specs.Words.{interrupt_head}
use Rattle.law_driver.specs.run_owners.Accepts.{Chains}
use Rattle.law_driver.specs.run_owners.Due.{IsLinkOf}
use Rattle.claims_driver.specs.Leaving.{HasOwners}
use Rattle.claims_driver.specs.Owners.{runs_of_endpoint}
use Rattle.hc_core.specs.declared.controller.ControllerRow.{ControllerRow}
use Rattle.hc_core.specs.Controller.{Content}
use Rattle.law_structures.specs.lent_structures.Structures.{StructureSets}
use Rattle.law_ring.specs.Hand.{Hand}
use Rattle.claims_base.specs.Controller.{Base}
use Rattle.law_driver_ring.specs.LendOpened.{IsOpened, opened_parts}
use Rattle.law_driver_ring.specs.Linked.{opened_part}
use Rattle.law_driver.specs.in_place.InPlace.{IsInPlace}
use Rattle.law_queues.specs.shared_memory.Shared.{parts_of, next_parts}
use Rattle.law_frames.specs.Met.{Kind}
use Rattle.law_frames.specs.FrameHand.{FrameHand}
use Rattle.law_descriptors.specs.Both.{both, parts_now}
use Rattle.law_descriptors.specs.Meeting.{standing}
use Rattle.law_descriptors.specs.ListRows.{leaves_now, recent_with, ComesFirst}
use Rattle.law_descriptors.specs.Told.{with_memory}
use Rattle.law_world.specs.memory.framed_memory.Now.{IsFramedNow, FramedNext, recent_then, FramedNowAfter}
use Rattle.law_world.specs.memory.framed_memory.NowRows.{FramedLinked}
use Rattle.law_world.specs.memory.framed_memory.Masks.{HasMasks}
use Rattle.law_world.specs.memory.framed_memory.Isochronous.{NumbersFit}
use Rattle.law_world.specs.memory.framed_memory.QueueRows.{chained_head}

-- ---- it is accepted

abbrev pub ChainKeepsNow : Type 0
ChainKeepsNow = (base : Base) (member : ℕ → Bool) (recent : ℕ → Option Kind) (descs parts : StructureSets) (hand : Hand) (frame : FrameHand) (c : Content) (d : DriverContent) (cmd : Cmd)
    (o : Offered) → IsFramedNow base member recent descs parts hand frame c d → Chains d c.memory o → IsOffered d.room cmd → offered d c.memory cmd ≡ Ok o
    → IsFramedNow base member recent descs parts hand frame (with_memory c o.memory) o.driver

-- ---- it is to be lent

abbrev pub chained_queue : Endpoint → Placement → ℕ → Qh
chained_queue x p link = interrupt_head x.desc p.smask p.cmask link x.dummy

pub record IsChainReady (d : DriverContent) (m : Mem) : Type 0 where
  pub number : ℕ
  pub endpoint : Endpoint
  pub here : slice_get d.endpoints number ≡ Some endpoint
  pub command : d.command ≡ Some unfinished.Chain
  pub made : d.made ≡ 0
  pub place : Placement
  pub placed : endpoint.placement ≡ Some place
  pub link : ℕ
  pub opened : IsOpened d m number (runs_of_endpoint endpoint) (chained_queue endpoint place link)
  pub links : (w : Work) → d.periodic.list.work ≡ Some w → w ≡ begun (queue_member endpoint.queue place) false

abbrev pub ChainBecomesReady : Type 0
ChainBecomesReady = (m : Mem) (d : DriverContent) (o : Offered) → (why : Chains d m o) → IsInPlace m d
    → IsQhInRange (chained_head d why.desc why.placement why.holding_after) → IsChainReady o.driver o.memory

abbrev pub ChainReadyStays : Type 0
ChainReadyStays = (d : DriverContent) (m new : Mem) → HasOwners d → Stands (holding d.book m) → ((at : ℕ) → reaches m at ≡ false → word_at new at ≡ word_at m at)
    → IsChainReady d m → IsChainReady d new

-- ---- it is lent, and is being linked

abbrev pub chained_parts : {d : DriverContent} {m : Mem} → StructureSets → IsChainReady d m → StructureSets
chained_parts parts k = opened_parts parts (runs_of_endpoint k.endpoint) (chained_queue k.endpoint k.place k.link)

pub record IsChainLent (d : DriverContent) (member : ℕ → Bool) (recent : ℕ → Option Kind) (parts : StructureSets) : Type 0 where
  pub number : ℕ
  pub endpoint : Endpoint
  pub here : slice_get d.endpoints number ≡ Some endpoint
  pub queued : (runs_of_endpoint endpoint).bare ≡ false
  pub command : d.command ≡ Some unfinished.Chain
  pub made : d.made ≡ 1
  pub place : Placement
  pub placed : endpoint.placement ≡ Some place
  pub work : Work
  pub under_way : d.periodic.list.work ≡ Some work
  pub adds : work.removes ≡ false
  pub links : work.member ≡ queue_member endpoint.queue place
  pub unmet : member (32 * endpoint.queue) ≡ false
  pub fresh : recent (32 * endpoint.queue) ≡ None
  pub link : ℕ
  pub off : work.made ≡ 0 → standing d (32 * endpoint.queue) ≡ None
  pub part : work.made ≡ 0 → (b : ℕ) → parts (32 * endpoint.queue) b ≡ opened_part (runs_of_endpoint endpoint) (chained_queue endpoint place link) b

-- where its queue head can't be linked, the open is finished with that
pub record ChainIsLent (base : Base) (member : ℕ → Bool) (recent : ℕ → Option Kind) (descs parts : StructureSets) (hand : Hand) (frame : FrameHand) (c : Content) (d : DriverContent)
    (k : IsChainReady d c.memory) : Type 0 where
  pub row : driver_row (parts_of c d) ≡ rows.Lend
  pub framed : FramedNext base member recent descs (chained_parts parts k) hand frame c d
  pub lent : (w : Work) → d.periodic.list.work ≡ Some w → IsChainLent (next_parts c d).driver member recent (chained_parts parts k)

abbrev pub ChainLends : Type 0
ChainLends = (base : Base) (member : ℕ → Bool) (recent : ℕ → Option Kind) (descs parts : StructureSets) (hand : Hand) (frame : FrameHand) (c : Content) (d : DriverContent)
    → IsFramedNow base member recent descs parts hand frame c d → (k : IsChainReady d c.memory) → ChainIsLent base member recent descs parts hand frame c d k

abbrev pub ChainComesFirst : Type 0
ChainComesFirst = (base : Base) (member : ℕ → Bool) (recent : ℕ → Option Kind) (descs parts : StructureSets) (hand : Hand) (frame : FrameHand) (c : Content) (d : DriverContent)
    → IsFramedNow base member recent descs parts hand frame c d → IsChainLent d member recent parts
    → ComesFirst member recent (both descs parts) d d.periodic.list

abbrev pub ChainStaysLent : {W : Type 0} → (W → ℕ → Bool → W → Type 0) → (W → Ask → List ℕ → Reply → W → Type 0) → Type 0
ChainStaysLent {W} begins transacts = (base : Base) (member : ℕ → Bool) (recent : ℕ → Option Kind) (descs parts : StructureSets) (hand : Hand) (frame : FrameHand) (c : Content)
    (d : DriverContent) (wire : W) (new : Content) (after : W) (row : ControllerRow) → IsFramedNow base member recent descs parts hand frame c d
    → (e : FramedNowAfter begins transacts base member (recent_then row recent) descs parts hand frame c d wire after new) → IsChainLent d member recent parts
    → IsChainLent d member (recent_then row recent) (parts_now descs parts e.now)

abbrev pub ChainLinksOn : Type 0
ChainLinksOn = (base : Base) (member : ℕ → Bool) (recent : ℕ → Option Kind) (descs parts : StructureSets) (hand : Hand) (frame : FrameHand) (c : Content) (d : DriverContent)
    → (why : IsLinkOf (parts_of c d) (driver_row (parts_of c d))) → (e : FramedLinked base member recent descs parts hand frame c d why.store) → (k : IsChainLent d member recent parts)
    → is_more d.periodic.list.members.schedule k.work ≡ true
    → IsChainLent (next_parts c d).driver member (recent_with d.periodic (leaves_now d.periodic.list) recent) (parts_now descs parts e.event.now)

-- ---- at each moment

abbrev pub ChainStands : DriverContent → Mem → (ℕ → Bool) → (ℕ → Option Kind) → StructureSets → Type 0
ChainStands d m member recent parts = d.command ≡ Some unfinished.Chain → IsChainReady d m ⊎ IsChainLent d member recent parts

abbrev pub NewChainStands : Type 0
NewChainStands = (n : ℕ) (room : Reserve) (m : Mem) (member : ℕ → Bool) (recent : ℕ → Option Kind) (parts : StructureSets) → ChainStands (opening n room).driver m member recent parts

abbrev pub AcceptedChainStands : Type 0
AcceptedChainStands = (d : DriverContent) (m : Mem) (cmd : Cmd) (o : Offered) (member : ℕ → Bool) (recent : ℕ → Option Kind) (parts : StructureSets) → IsInPlace m d
    → ((why : Chains d m o) → IsQhInRange (chained_head d why.desc why.placement why.holding_after)) → offered d m cmd ≡ Ok o → ChainStands o.driver o.memory member recent parts

-- an event begins no command
abbrev pub OtherChainStands : Type 0
OtherChainStands = (c : Content) (d : DriverContent) (m : Mem) (member : ℕ → Bool) (recent : ℕ → Option Kind) (parts : StructureSets) → (d.command ≡ Some unfinished.Chain → ⊥)
    → ChainStands (next_parts c d).driver m member recent parts

abbrev pub ChainStandsBeside : {W : Type 0} → (W → ℕ → Bool → W → Type 0) → (W → Ask → List ℕ → Reply → W → Type 0) → Type 0
ChainStandsBeside {W} begins transacts = (base : Base) (member : ℕ → Bool) (recent : ℕ → Option Kind) (descs parts : StructureSets) (hand : Hand) (frame : FrameHand) (c : Content)
    (d : DriverContent) (wire : W) (new : Content) (after : W) (row : ControllerRow) → IsFramedNow base member recent descs parts hand frame c d
    → (e : FramedNowAfter begins transacts base member (recent_then row recent) descs parts hand frame c d wire after new)
    → ((at : ℕ) → reaches c.memory at ≡ false → word_at new.memory at ≡ word_at c.memory at) → ChainStands d c.memory member recent parts
    → ChainStands d new.memory member (recent_then row recent) (parts_now descs parts e.now)

pub data ChainGoesOn (base : Base) (member : ℕ → Bool) (recent : ℕ → Option Kind) (descs parts : StructureSets) (hand : Hand) (frame : FrameHand) (c : Content) (d : DriverContent) : Type 0
  where
    lends : (k : IsChainReady d c.memory) → driver_row (parts_of c d) ≡ rows.Lend → FramedNext base member recent descs (chained_parts parts k) hand frame c d
        → ChainStands (next_parts c d).driver (next_parts c d).memory member recent (chained_parts parts k) → ChainGoesOn base member recent descs parts hand frame c d
    stores : (why : IsLinkOf (parts_of c d) (driver_row (parts_of c d))) → (e : FramedLinked base member recent descs parts hand frame c d why.store)
        → ChainStands (next_parts c d).driver (next_parts c d).memory member (recent_with d.periodic (leaves_now d.periodic.list) recent) (parts_now descs parts e.event.now)
        → ChainGoesOn base member recent descs parts hand frame c d
    rests : driver_row (parts_of c d) ≡ rows.Rest → FramedNext base member recent descs parts hand frame c d
        → ChainStands (next_parts c d).driver (next_parts c d).memory member recent parts → ChainGoesOn base member recent descs parts hand frame c d

abbrev pub ChainGoesOnNow : Type 0
ChainGoesOnNow = (base : Base) (member : ℕ → Bool) (recent : ℕ → Option Kind) (descs parts : StructureSets) (hand : Hand) (frame : FrameHand) (c : Content) (d : DriverContent)
    → IsFramedNow base member recent descs parts hand frame c d → d.command ≡ Some unfinished.Chain → ChainStands d c.memory member recent parts
    → ChainGoesOn base member recent descs parts hand frame c d

-- ---- its fields

abbrev pub ChainedHeadIsInRange : Type 0
ChainedHeadIsInRange = (x : EpDesc) (p : Placement) (link dummy : ℕ) → NumbersFit x → x.max ≤ 1024 → x.port ≤ 127 → x.multi ≤ 3 → HasMasks p
    → IsQhInRange (interrupt_head x p.smask p.cmask link dummy)
