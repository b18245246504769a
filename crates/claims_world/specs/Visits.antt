-- In one microframe the walk of the frames visits no structure twice, and each in its frame, while members are linked and unlinked; and
-- once it is over, it has visited each that was linked in the frame as the microframe began and is linked there still. In a microframe that
-- is held no time is left. The asynchronous part ends where the head of the ring was read with Reclamation 0, or where the next price
-- passes the time left, and then the ring goes on at the same queue head. A structure that is visited has its transaction, or is passed
-- without it for one of the standard's reasons alone, in the ring and in the frames (EHCI 1.0, 3.6.2, 4.4, 4.6 to 4.10, 4.10.3 and 4.12).
--     name_of link                   the byte address of the structure to which a link leads, if any
--     next_of m n                    .. where the link is the word at byte address n: that of an element of the frame list, or the first
--                                    word of a structure
--     IsLedTo m n o                  the structure at n is the one at o, or the links lead to it from there
--     IsInChain w f n                .. from the element of frame f: it is linked in that frame
--     begins x                       the byte address at which the structure of a member begins
--     fetched_by row                 the byte address of the structure that is fetched so
--     visited_too o vs               it was visited too
--     visits_at hand row vs          .. where nothing is in hand
--     visits_after row c vs          what was visited after an event of the controller, the newest first
--     visits_next fixed w vs         .. after the next event of the controller of a world
--     visited s k                    .. after k events and commands of the run of a script
--     began_at row w b, began_by     the world as the microframe began, where it was b before an event of this row in the world w
--     began s k                      .. after k events and commands of the run of a script; before the first Begin the world before its
--                                    first line
--     frame_in index                 the frame of the microframe with this FRINDEX
--     IsMemberIn d frame n           the member that begins at n is one to which a word may lead, and stands in this frame
--     WasOfFrame d frame n what      what was removed had a structure at n, of this frame: a descriptor that is for it, or the queue head of
--                                    an endpoint whose placement is active in it
--     IsUnlinkedNow d index what     it was removed in this microframe: no reading of FRINDEX with another frame number came since, or the
--                                    command that unlinks it isn't finished
--     IsInItsFrame d index frame v   the structure at v is that of such a member; or it was of this frame, and was unlinked in this
--                                    microframe
--     VisitsApart w vs               no structure was visited twice, and each that was visited is in its frame
--     VisitsEachOnce s               at each moment no structure was visited twice in the microframe, and each that was visited is in its
--                                    frame
--     HasVisited n vs                the structure at n is among those that were visited
--     IsPastFrames w                 the walk of the frames is over in this microframe
--     VisitsEach s                   at each moment at which it is over, each structure that was linked in the frame as the microframe
--                                    began, and is linked there still, was visited
--     is_held_now fixed w            the microframe that began last is one in which the bus may not be used
--     TellsMicroframe fixed w        so the Begin of that microframe heard of it; no other event changes which microframe it is, and no
--                                    command
--     HasNoTime fixed w              no time is left, the controller's next event is no transaction, and unless a microframe begins by it
--                                    nobody on the bus hears anything
--     HoldsNoTime fixed w            it is told which microframe it is, and in one that is held there is no time
--     KeepsHeldTime s                .. at each moment of a script's run: from the Begin of a held microframe, with both walks of it, to
--                                    the next Begin
--     EndsByTime w h                 the controller's next event ends the asynchronous part, since the price of the next transaction of the
--                                    queue head in hand passes the time left
--     LeavesPlace fixed w h          it drops the copy, and leaves the cursor at that queue head
--     ReadsAnew fixed w at           the controller's next event reads the queue head at this address: the copy is as memory has it then,
--                                    with NakCnt reloaded if it is the head of the ring
--     IsOutside w                    the controller isn't in the asynchronous part
--     StaysOutside s i n             .. from moment i on, for n moments more
--     KeepsPlaceOfRing s             of a script's run: outside the asynchronous part the cursor stays; an end by time leaves it at the
--                                    queue head in hand, and where the next asynchronous part begins that one is read anew
--     EndsForAReason w               where the controller's next event is the end of the part, the head of the ring was read with
--                                    Reclamation 0, or the price of the next transaction passes the time that is left; the part is never
--                                    disabled, and the event is never a fault
--     RingHasNothing p h             it is halted, or NakCnt is 0 while RL isn't; or its overlay is done, and its queue ends, or the qTD
--                                    that comes next isn't active
--     IsPassedInRing p               there is one of these reasons at the queue head of the ring in hand, which has no transaction to be
--                                    written back
--     PassesForAReason w             that one is passed for one of these reasons alone; and a part begins with none in hand
--     IsWorkedInRing p h             what the event is, of a copy with an active overlay and no transaction to be written back: its
--                                    transaction; it is passed, since it is halted or its NAKs are used up; or the part ends, since the
--                                    price passes the time left
--     WorksInRing w                  so it is at each queue head of the ring in hand whose overlay is active
--     HasReasons w                   all three
--     KeepsReasons s                 .. at each moment of a script's run
--     GoesToLink p h                 its overlay is done, and the link of that tells the qTD that comes next
--     HasItsTurn p h                 its overlay is active, and this is a microframe of it
--     QueueHasNothing p h            it is halted, this microframe isn't in its S-mask or, while complete-splits are to come, in its
--                                    C-mask, the price of its transaction passes the time left, its queue ends, or the qTD that comes next
--                                    isn't active; NakCnt is no reason (4.9 is of the ring)
--     QueueVisited p h               what the event is, of a copy with no transaction to be written back: its transaction, for which there
--                                    is time; a qTD is taken; it is passed for one of these reasons; or a microframe of its split
--                                    transaction was missed, which is written back with no transaction
--     ItdHasNothing p h              its slot of this microframe isn't active, or the price of its transaction passes the time left
--     ItdVisited p h                 what the event is, of an iTD with a transaction to come: its transaction, or it is passed for such a
--                                    reason
--     SitdHasNothing p h             it isn't active, this microframe isn't one of its mask, or the price passes the time left
--     SitdVisited p h                what the event is, of a siTD with no transaction to be written back: its transaction, for which this
--                                    is a microframe of its mask; it is passed for such a reason; or a microframe of its split transaction
--                                    was missed, which is written back with no transaction
--     HandHasNothing p               there is one of these reasons at the structure in hand
--     PassesInFramesForAReason w     a queue head in hand of the walk of the frames is passed for one of its reasons alone, and for each of
--                                    them; and any structure for one of its own
--     VisitsInFrames w               each event at a structure in hand of the walk of the frames, with no transaction to be written back,
--                                    is one of those, so that it is never the fault: an active one has its transaction, or one of the
--                                    reasons stands
--     HasFrameReasons w              both
--     KeepsFrameReasons s            .. at each moment of a script's run
--     KeepsVisits s                  in one microframe the walk of the frames visits no structure twice, and each in its frame, and leaves
--                                    none out; a microframe in which the bus may not be used has no time; the asynchronous part ends at the
--                                    head of the ring, read with Reclamation 0, or for want of time, and then the ring goes on at the same
--                                    queue head; and a structure that is visited has its transaction, or is passed without it for one of
--                                    the standard's reasons alone, in the ring and in the frames
use Rattle.std.specs.List.{AllByRecursion}
use Rattle.std.specs.Prelude.{◌≡◌, ◌≢◌, ℕ, ◌+◌, suc, ◌/◌, ◌*◌, ◌%◌, ◌<◌, ◌≤◌, ◌⊎◌, Bool, true, not, false, List, [], ◌∷◌, slice_get, Option, Some, None}
use Rattle.usb_base.specs.declared.commands.Cmd.{Cmd}
use Rattle.usb_base.specs.declared.packets.EpKind.TheVariants.{Interrupt}
use Rattle.script_types.specs.declared.scripts.Script.{Script}
use Rattle.word_mem.specs.Memory.{Mem, word_at}
use Rattle.drv_chains.specs.declared.members.Member.{Member}
use Rattle.drv_chains.specs.Chains.{id_of, stands_in}
use Rattle.drv_members.specs.Members.{is_linked}
use Rattle.link_words.specs.declared.kinds.Link.{Link}
use Rattle.link_words.specs.declared.kinds.Link.TheVariants as links
use Rattle.link_words.specs.declared.kinds.QtdLink.TheVariants as qtd_links
use Rattle.link_words.specs.Links.{link_read, qtd_link_of}
use Rattle.qh_qtd.specs.declared.qtd.Qtd.{Qtd}
use Rattle.qh_qtd.specs.declared.queue_head.Qh.{Qh}
use Rattle.bandwidth.specs.declared.placements.Placement.{Placement}
use Rattle.bandwidth.specs.Sums.{is_active}
use Rattle.drv_periodic_table.specs.declared.content.Removal.{Removal}
use Rattle.drv_periodic_table.specs.declared.content.Removed.{Removed}
use Rattle.drv_periodic_table.specs.declared.content.Removed.TheVariants as removed
use Rattle.drv_periodic_table.specs.Periodic.{note_at}
use Rattle.drv_table.specs.declared.content.Command.TheVariants as unfinished
use Rattle.drv_table.specs.declared.content.Endpoint.{Endpoint}
use Rattle.drv_table.specs.declared.content.Transfer.{Transfer}
use Rattle.drv_table.specs.DriverContent.{DriverContent, waits_for}
use Rattle.mem_queues.specs.Structures.{qtd_at_address, queue_head_at_address}
use Rattle.hc_copy.specs.declared.held.Held.{Held}
use Rattle.hc_copy.specs.Visits.{next_pointer}
use Rattle.async_walk.specs.declared.rows.WalkRow.TheVariants as walks
use Rattle.async_walk.specs.declared.state.Cursor.TheVariants as cursors
use Rattle.async_walk.specs.declared.state.ReloadMode.TheVariants.{WaitHead}
use Rattle.async_walk.specs.Causes.{HasReason, NaksAreUsedUp}
use Rattle.async_walk.specs.Naks.{mode_after, reloaded, planned as ring_planned}
use Rattle.async_walk.specs.Rows.{WalkPlace, started, event_row}
use Rattle.hc_masks.specs.Masks.{has}
use Rattle.hc_interrupt.specs.Turns.{microframe_of, waits, is_missed, planned}
use Rattle.hc_iso.specs.declared.held.HeldItd.{HeldItd}
use Rattle.hc_iso.specs.declared.held.HeldSitd.{HeldSitd}
use Rattle.hc_iso.specs.Itd.{itd_transaction}
use Rattle.hc_iso.specs.Sitd.{sitd_missed, comes, sitd_transaction}
use Rattle.periodic_walk.specs.declared.chain.ChainRow.{ChainRow}
use Rattle.periodic_walk.specs.declared.chain.ChainRow.TheVariants as chains
use Rattle.periodic_walk.specs.declared.state.Hand.{Hand}
use Rattle.periodic_walk.specs.declared.state.Hand.TheVariants as hands
use Rattle.periodic_walk.specs.declared.state.HeldQueue.{HeldQueue}
use Rattle.periodic_walk.specs.Chain.{chain_row}
use Rattle.periodic_walk.specs.Place.{FramePlace}
use Rattle.periodic_walk.specs.Walk.{is_over}
use Rattle.hc_core.specs.declared.controller.ControllerRow.{ControllerRow}
use Rattle.hc_core.specs.declared.controller.ControllerRow.TheVariants as rows
use Rattle.hc_core.specs.declared.controller.HcStep.{HcStep}
use Rattle.hc_core.specs.declared.controller.HcStep.TheVariants as steps
use Rattle.hc_core.specs.declared.controller.MicroframePart.TheVariants.{Periodic, Asynchronous}
use Rattle.hc_core.specs.Controller.{Content, entered, frame_place, time_left, walk_place}
use Rattle.bus_wire.specs.Bus.{Fixed, is_held, fixed_of, is_allowed}
use Rattle.bus_world.specs.Budgets.{moment}
use Rattle.bus_world.specs.Opening.{opening_world}
use Rattle.bus_world.specs.World.{World, controller_parts, controller_row, driver_next, controller_next, kind_next, commanded}
use Rattle.claims_driver.specs.Owners.{is_descriptor}
use Rattle.claims_driver.specs.Unlinked.{IsOpenAt, led}
use Rattle.claims_world.specs.Carried.{carried}
use Rattle.claims_world.specs.Memory.{AreOnce}

-- ---- where a link leads

abbrev pub name_of : Link → Option ℕ
name_of links.End = None
name_of (links.Itd a) = Some a
name_of (links.Qh a) = Some a
name_of (links.Sitd a) = Some a
name_of (links.Fstn a) = Some a

abbrev pub next_of : Mem → ℕ → Option ℕ
next_of m n = name_of (link_read (word_at m n))

pub data IsLedTo (m : Mem) (n : ℕ) : Option ℕ → Type 0 where
  is_there : IsLedTo m n (Some n)
  leads_on : (a : ℕ) → IsLedTo m n (next_of m a) → IsLedTo m n (Some a)

-- four bytes an element (3.1)
abbrev pub IsInChain : World → ℕ → ℕ → Type 0
IsInChain w f n = IsLedTo w.memory n (next_of w.memory (w.registers.periodic_list_base + 4 * f))

abbrev pub begins : Member → ℕ
begins x = 32 * (id_of x / 32)

-- ---- what was visited

abbrev pub fetched_by : ChainRow → Option ℕ
fetched_by chains.Fault = None
fetched_by chains.Ends = None
fetched_by (chains.Queue a q) = Some a
fetched_by (chains.Itd a v) = Some a
fetched_by (chains.Sitd a v) = Some a

abbrev pub visited_too : Option ℕ → List ℕ → List ℕ
visited_too None vs = vs
visited_too (Some a) vs = a ∷ vs

-- with a copy in hand nothing is fetched
abbrev pub visits_at : Option Hand → ChainRow → List ℕ → List ℕ
visits_at None row vs = visited_too (fetched_by row) vs
visits_at (Some hand) row vs = vs

abbrev pub visits_after : ControllerRow → Content → List ℕ → List ℕ
visits_after rows.Begin c vs = []
visits_after rows.Frame c vs = visits_at c.control.frame.hand (chain_row c.memory c.control.frame.cursor) vs
visits_after rows.Idle c vs = vs
visits_after rows.Enter c vs = vs
visits_after rows.Go c vs = vs
visits_after rows.End c vs = vs

abbrev pub visits_next : Fixed → World → List ℕ → List ℕ
visits_next fixed w vs = visits_after (controller_row w) (controller_parts w) vs

abbrev pub visited : Script → ℕ → List ℕ
visited s k = carried visits_next s [] k

-- ---- the world as the microframe began

abbrev pub began_at : ControllerRow → World → World → World
began_at rows.Begin w b = w
began_at rows.Idle w b = b
began_at rows.Frame w b = b
began_at rows.Enter w b = b
began_at rows.Go w b = b
began_at rows.End w b = b

abbrev pub began_by : Fixed → World → World → World
began_by fixed w b = began_at (controller_row w) w b

abbrev pub began : Script → ℕ → World
began s k = carried began_by s (opening_world s) k

-- ---- what comes next

-- its element of the frame list (4.4)
abbrev pub frame_in : ℕ → ℕ
frame_in index = index / 8 % 1024

-- ---- a run

pub record IsMemberIn (d : DriverContent) (frame n : ℕ) : Type 0 where
  pub member : Member
  pub at : begins member ≡ n
  pub linked : is_linked (led d) member ≡ true
  pub in_frame : stands_in frame member ≡ true

pub data WasOfFrame (d : DriverContent) (frame n : ℕ) : Removed → Type 0 where
  of_descriptor : (t : ℕ) (y : Transfer) → slice_get d.transfers t ≡ Some y → is_descriptor y.sort ≡ true → n ≡ 32 * y.first
      → (note_at d.periodic.notes y.first).frame ≡ frame → WasOfFrame d frame n (removed.Descriptor t)
  of_queue_head : (e : ℕ) (x : Endpoint) (p : Placement) → slice_get d.endpoints e ≡ Some x → x.desc.kind ≡ Interrupt → x.placement ≡ Some p
      → n ≡ 32 * x.queue → is_active p frame ≡ true → WasOfFrame d frame n (removed.Endpoint e)
  of_waiting : (e t : ℕ) (y : Transfer) → slice_get d.transfers t ≡ Some y → is_descriptor y.sort ≡ true → waits_for e y ≡ true
      → n ≡ 32 * y.first → (note_at d.periodic.notes y.first).frame ≡ frame → WasOfFrame d frame n (removed.Endpoint e)

pub data IsUnlinkedNow (d : DriverContent) (index : ℕ) : Removed → Type 0 where
  since : (i : ℕ) (r : Removal) → slice_get d.periodic.removals i ≡ Some r → IsOpenAt index r.boundary → IsUnlinkedNow d index r.what
  by_command : (e : ℕ) → d.command ≡ Some (unfinished.Unchain e) → IsUnlinkedNow d index (removed.Endpoint e)

abbrev pub IsInItsFrame : DriverContent → ℕ → ℕ → ℕ → Type 0
IsInItsFrame d index frame v = IsMemberIn d frame v ⊎ ((what : Removed) × (WasOfFrame d frame v what × IsUnlinkedNow d index what))

pub record VisitsApart (w : World) (vs : List ℕ) : Type 0 where
  pub once : AreOnce vs
  pub in_frame : AllByRecursion (IsInItsFrame w.driver w.registers.frame_index (frame_in w.control.frame.index)) vs

abbrev pub VisitsEachOnce : Script → Type 0
VisitsEachOnce s = (k : ℕ) → VisitsApart (moment s k).world (visited s k)

abbrev pub HasVisited : ℕ → List ℕ → Type 0
HasVisited n [] = ⊥
HasVisited n (v ∷ vs) = (n ≡ v) ⊎ HasVisited n vs

abbrev pub IsPastFrames : World → Type 0
IsPastFrames w = w.control.part ≡ Periodic → is_over w.control.frame ≡ true

abbrev pub VisitsEach : Script → Type 0
VisitsEach s = (k n : ℕ) → IsPastFrames (moment s k).world → IsInChain (began s k) (frame_in (moment s k).world.control.frame.index) n
    → IsInChain (moment s k).world (frame_in (moment s k).world.control.frame.index) n → HasVisited n (visited s k)

-- by the number that the bus counts at each Begin
abbrev pub is_held_now : Fixed → World → Bool
is_held_now fixed w = is_held fixed.holds w.bus.microframe

pub record TellsMicroframe (fixed : Fixed) (w : World) : Type 0 where
  -- what the controller heard as the microframe began is so of this one
  pub begins : controller_row w ≡ rows.Begin → is_allowed fixed w.bus ≡ not (is_held_now fixed (controller_next fixed w))
  pub goes_on : controller_row w ≢ rows.Begin → (controller_next fixed w).bus.microframe ≡ w.bus.microframe
  pub driver : (driver_next w).bus ≡ w.bus
  pub command : (line : ℕ) (cmd : Cmd) → (commanded w line cmd).bus ≡ w.bus

pub record HasNoTime (fixed : Fixed) (w : World) : Type 0 where
  pub none_left : time_left w.control ≡ 0
  pub no_transaction : kind_next w ≢ steps.Transact
  pub unasked : controller_row w ≢ rows.Begin → (controller_next fixed w).bus ≡ w.bus

pub record HoldsNoTime (fixed : Fixed) (w : World) : Type 0 where
  pub tells : TellsMicroframe fixed w
  pub held : is_held_now fixed w ≡ true → HasNoTime fixed w

abbrev pub KeepsHeldTime : Script → Type 0
KeepsHeldTime s = (k : ℕ) → HoldsNoTime (fixed_of s) (moment s k).world

-- ---- an end by time

pub record EndsByTime (w : World) (h : Held) : Type 0 where
  pub going : controller_row w ≡ rows.Go
  pub in_hand : w.control.walk.held ≡ Some h
  pub late : event_row (walk_place (controller_parts w)) ≡ walks.OutOfTime

pub record LeavesPlace (fixed : Fixed) (w : World) (h : Held) : Type 0 where
  pub is_end : kind_next w ≡ steps.End
  pub cursor : (controller_next fixed w).control.walk.cursor ≡ cursors.At (links.Qh h.at)
  pub dropped : (controller_next fixed w).control.walk.held ≡ None

-- ---- the next part begins

pub record ReadsAnew (fixed : Fixed) (w : World) (at : ℕ) : Type 0 where
  pub queue_head : Qh
  pub stands_there : queue_head_at_address w.memory at ≡ Some queue_head
  pub is_fetch : kind_next w ≡ steps.Fetch
  pub cursor : (controller_next fixed w).control.walk.cursor ≡ cursors.At (links.Qh at)
  pub in_hand : (controller_next fixed w).control.walk.held
      ≡ Some (record { at = at; queue_head = reloaded (mode_after queue_head WaitHead) queue_head; settled = None })

-- ---- a run

abbrev pub IsOutside : World → Type 0
IsOutside w = w.control.part ≢ Asynchronous

abbrev pub StaysOutside : Script → ℕ → ℕ → Type 0
StaysOutside s i n = (j : ℕ) → j ≤ n → IsOutside (moment s (i + j)).world

pub record KeepsPlaceOfRing (s : Script) : Type 0 where
  pub stays : (i n : ℕ) → StaysOutside s i n → (moment s (i + n)).world.control.walk.cursor ≡ (moment s i).world.control.walk.cursor
  pub leaves : (i : ℕ) (h : Held) → EndsByTime (moment s i).world h → LeavesPlace (fixed_of s) (moment s i).world h
  -- the controller has that event, and its next part begins n moments later
  pub goes_on : (i n : ℕ) (h : Held) → EndsByTime (moment s i).world h → (moment s (suc i)).world ≡ controller_next (fixed_of s) (moment s i).world → StaysOutside s (suc i) n
      → controller_row (moment s (suc i + n)).world ≡ rows.Enter → ReadsAnew (fixed_of s) (moment s (suc i + n)).world h.at

-- the part may begin with the event
pub record EndsForAReason (w : World) : Type 0 where
  pub enabled : controller_row w ≢ rows.End
  pub going : controller_row w ≡ rows.Go → kind_next w ≡ steps.End → HasReason (started (walk_place (controller_parts w)))
  pub beginning : controller_row w ≡ rows.Enter → kind_next w ≡ steps.End → HasReason (started (walk_place (entered (controller_parts w))))

-- its overlay is neither active nor halted: the link of the overlay tells the qTD that comes next
pub record OverlayIsDone (h : Held) : Type 0 where
  pub done : h.queue_head.token.active ≡ false
  pub unhalted : h.queue_head.token.halted ≡ false

pub data RingHasNothing (p : WalkPlace) (h : Held) : Type 0 where
  is_halted : h.queue_head.token.halted ≡ true → RingHasNothing p h
  naks_are_used_up : NaksAreUsedUp h.queue_head → RingHasNothing p h
  queue_ends : OverlayIsDone h → qtd_link_of (next_pointer h.queue_head) ≡ qtd_links.End → RingHasNothing p h
  qtd_is_done : (at : ℕ) (qtd : Qtd) → OverlayIsDone h → qtd_link_of (next_pointer h.queue_head) ≡ qtd_links.To at
      → qtd_at_address p.memory at ≡ Some qtd → qtd.token.active ≡ false → RingHasNothing p h

pub record IsPassedInRing (p : WalkPlace) : Type 0 where
  pub held : Held
  pub in_hand : p.walk.held ≡ Some held
  pub unsettled : held.settled ≡ None
  pub reason : RingHasNothing p held

pub record PassesForAReason (w : World) : Type 0 where
  pub going : controller_row w ≡ rows.Go → kind_next w ≡ steps.Skip → IsPassedInRing (walk_place (controller_parts w))
  pub beginning : controller_row w ≡ rows.Enter → kind_next w ≢ steps.Skip

pub data IsWorkedInRing (p : WalkPlace) (h : Held) : HcStep → Type 0 where
  transacts : IsWorkedInRing p h steps.Transact
  is_halted : h.queue_head.token.halted ≡ true → IsWorkedInRing p h steps.Skip
  naks_are_used_up : NaksAreUsedUp h.queue_head → IsWorkedInRing p h steps.Skip
  has_no_time : p.walk.left < (ring_planned h.queue_head).price.0 → IsWorkedInRing p h steps.End

abbrev pub WorksInRing : World → Type 0
WorksInRing w = (h : Held) → controller_row w ≡ rows.Go → w.control.walk.held ≡ Some h → h.settled ≡ None → h.queue_head.token.active ≡ true
    → IsWorkedInRing (walk_place (controller_parts w)) h (kind_next w)

pub record HasReasons (w : World) : Type 0 where
  pub ends : EndsForAReason w
  pub passes : PassesForAReason w
  pub works : WorksInRing w

abbrev pub KeepsReasons : Script → Type 0
KeepsReasons s = (k : ℕ) → HasReasons (moment s k).world

-- ---- the reasons

-- its overlay isn't active, nor is it halted: the link of its overlay tells the qTD that comes next
pub record GoesToLink (p : FramePlace) (h : HeldQueue) : Type 0 where
  pub done : h.copy.queue_head.token.active ≡ false
  pub unhalted : h.copy.queue_head.token.halted ≡ false
  pub in_its_s_mask : has h.copy.queue_head.smask (microframe_of p.walk.index) ≡ true

-- its overlay is active, and this is a microframe of it
pub record HasItsTurn (p : FramePlace) (h : HeldQueue) : Type 0 where
  pub active : h.copy.queue_head.token.active ≡ true
  pub unhalted : h.copy.queue_head.token.halted ≡ false
  pub starts : waits h.copy.queue_head ≡ false → has h.copy.queue_head.smask (microframe_of p.walk.index) ≡ true
  pub completes : waits h.copy.queue_head ≡ true → has h.copy.queue_head.cmask (microframe_of p.walk.index) ≡ true
  pub none_missed : waits h.copy.queue_head ≡ true → is_missed p.walk.index h.copy.queue_head ≡ false

pub data QueueHasNothing (p : FramePlace) (h : HeldQueue) : Type 0 where
  is_halted : h.copy.queue_head.token.halted ≡ true → QueueHasNothing p h
  not_in_its_s_mask : waits h.copy.queue_head ≡ false → has h.copy.queue_head.smask (microframe_of p.walk.index) ≡ false → QueueHasNothing p h
  not_in_its_c_mask : waits h.copy.queue_head ≡ true → is_missed p.walk.index h.copy.queue_head ≡ false → has h.copy.queue_head.cmask (microframe_of p.walk.index) ≡ false
      → QueueHasNothing p h
  has_no_time : HasItsTurn p h → p.walk.left < (planned h.copy.queue_head).price.0 → QueueHasNothing p h
  queue_ends : GoesToLink p h → qtd_link_of (next_pointer h.copy.queue_head) ≡ qtd_links.End → QueueHasNothing p h
  qtd_is_done : (at : ℕ) (qtd : Qtd) → GoesToLink p h → qtd_link_of (next_pointer h.copy.queue_head) ≡ qtd_links.To at → qtd_at_address p.memory at ≡ Some qtd
      → qtd.token.active ≡ false → QueueHasNothing p h

-- ---- what an event at it is

pub data QueueVisited (p : FramePlace) (h : HeldQueue) : HcStep → Type 0 where
  transacts : HasItsTurn p h → (planned h.copy.queue_head).price.0 ≤ p.walk.left → QueueVisited p h steps.Transact
  advances : (at : ℕ) (qtd : Qtd) → GoesToLink p h → qtd_link_of (next_pointer h.copy.queue_head) ≡ qtd_links.To at → qtd_at_address p.memory at ≡ Some qtd
      → qtd.token.active ≡ true → QueueVisited p h steps.Advance
  passes : QueueHasNothing p h → QueueVisited p h steps.Skip
  misses : waits h.copy.queue_head ≡ true → is_missed p.walk.index h.copy.queue_head ≡ true → QueueVisited p h steps.WriteBack

-- of an iTD, each microframe has a slot (3.3.2)
pub data ItdHasNothing (p : FramePlace) (h : HeldItd) : Type 0 where
  is_inactive : h.slot.active ≡ false → ItdHasNothing p h
  has_no_time : h.slot.active ≡ true → p.walk.left < (itd_transaction h).price.0 → ItdHasNothing p h

pub data ItdVisited (p : FramePlace) (h : HeldItd) : HcStep → Type 0 where
  transacts : h.slot.active ≡ true → ItdVisited p h steps.Transact
  passes : ItdHasNothing p h → ItdVisited p h steps.Skip

-- of a siTD, an IN's start-split comes in a microframe of the S-mask and its complete-splits in those of the C-mask, an OUT's parts in
-- those of the S-mask (4.12.3)
pub data SitdHasNothing (p : FramePlace) (h : HeldSitd) : Type 0 where
  is_inactive : h.sitd.active ≡ false → SitdHasNothing p h
  not_in_its_mask : comes (microframe_of p.walk.index) h.sitd ≡ false → SitdHasNothing p h
  has_no_time : h.sitd.active ≡ true → p.walk.left < (sitd_transaction h.sitd).price.0 → SitdHasNothing p h

pub data SitdVisited (p : FramePlace) (h : HeldSitd) : HcStep → Type 0 where
  transacts : h.sitd.active ≡ true → comes (microframe_of p.walk.index) h.sitd ≡ true → SitdVisited p h steps.Transact
  passes : SitdHasNothing p h → SitdVisited p h steps.Skip
  misses : h.sitd.active ≡ true → sitd_missed (microframe_of p.walk.index) h.sitd ≡ true → SitdVisited p h steps.WriteBack

pub data HandHasNothing (p : FramePlace) : Type 0 where
  of_queue : (h : HeldQueue) → p.walk.hand ≡ Some (hands.Queue h) → QueueHasNothing p h → HandHasNothing p
  of_itd : (h : HeldItd) → p.walk.hand ≡ Some (hands.Itd h) → ItdHasNothing p h → HandHasNothing p
  of_sitd : (h : HeldSitd) → p.walk.hand ≡ Some (hands.Sitd h) → SitdHasNothing p h → HandHasNothing p

-- ---- of a world

pub record PassesInFramesForAReason (w : World) : Type 0 where
  pub queue : (h : HeldQueue) → controller_row w ≡ rows.Frame → kind_next w ≡ steps.Skip → w.control.frame.hand ≡ Some (hands.Queue h)
      → QueueHasNothing (frame_place (controller_parts w)) h
  -- and each of the reasons passes it
  pub each : (h : HeldQueue) → controller_row w ≡ rows.Frame → w.control.frame.hand ≡ Some (hands.Queue h) → h.copy.settled ≡ None
      → QueueHasNothing (frame_place (controller_parts w)) h → kind_next w ≡ steps.Skip
  pub any : controller_row w ≡ rows.Frame → kind_next w ≡ steps.Skip → HandHasNothing (frame_place (controller_parts w))

pub record VisitsInFrames (w : World) : Type 0 where
  pub queue : (h : HeldQueue) → controller_row w ≡ rows.Frame → w.control.frame.hand ≡ Some (hands.Queue h) → h.copy.settled ≡ None
      → QueueVisited (frame_place (controller_parts w)) h (kind_next w)
  pub itd : (h : HeldItd) → controller_row w ≡ rows.Frame → w.control.frame.hand ≡ Some (hands.Itd h) → h.ended ≡ None
      → ItdVisited (frame_place (controller_parts w)) h (kind_next w)
  pub sitd : (h : HeldSitd) → controller_row w ≡ rows.Frame → w.control.frame.hand ≡ Some (hands.Sitd h) → h.settled ≡ None
      → SitdVisited (frame_place (controller_parts w)) h (kind_next w)

pub record HasFrameReasons (w : World) : Type 0 where
  pub passes : PassesInFramesForAReason w
  pub visits : VisitsInFrames w

-- ---- of a run

abbrev pub KeepsFrameReasons : Script → Type 0
KeepsFrameReasons s = (k : ℕ) → HasFrameReasons (moment s k).world

pub record KeepsVisits (s : Script) : Type 0 where
  pub once : VisitsEachOnce s
  pub each : VisitsEach s
  pub held : KeepsHeldTime s
  pub place : KeepsPlaceOfRing s
  pub ring : KeepsReasons s
  pub frames : KeepsFrameReasons s
