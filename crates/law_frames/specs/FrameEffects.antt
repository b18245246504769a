-- What an event of the walk of the frames is to the structures in memory and to what is in hand (EHCI 1.0, 4.6, 4.7.1, 4.10, 4.12.2 and 4.12.3): it reads a
-- structure, passes on, takes a qTD, makes one transaction, or writes one back. Nothing else changes, and of one structure's part alone.
--     AreOut part pages from n out  the n bytes that go out, from byte `from` of these pages on
--     AreReceivedAt part pages from got r
--                                   so these received bytes are put, from byte `from` of these pages on
--     itd_back c, itd_parts ..      the iTD after its write-back, and the parts with it
--     sitd_back c n, sitd_parts ..  the siTD after its write-back, where n bytes were moved, and the parts with it
--     frame_settlement f q out reply
--                                   what the transaction of a queue head came to, in a microframe
--     missed_settlement q           what a missed microframe of its split transaction comes to
--     IsSettledFrom w hand c z made what is in hand is settled; or a microframe was missed, and that settles it
--     Fetches, TakesOne, MakesOne, WritesOne
--                                   each of the events, where the walk stands at w
--     FrameEffect .. kind           which of them an event of this kind is; no fault is one
--     FrameHappens .. p new kind    the walk at `new` after an event at p, with its effect
use Rattle.std.specs.Prelude.{◌≡◌, ℕ, ◌+◌, ◌-◌, ◌<◌, ◌≤◌, min, true, false, List, [], length, take, drop, slice_index, slice_set, if◌then◌else◌, Option, Some, None}
use Rattle.usb_base.specs.declared.endpoints.EndCause.TheVariants.{Miss}
use Rattle.usb_base.specs.declared.packets.Ask.{Ask}
use Rattle.usb_base.specs.declared.packets.Reply.{Reply}
use Rattle.qh_qtd.specs.declared.qtd.Qtd.{Qtd}
use Rattle.qh_qtd.specs.declared.queue_head.Qh.{Qh}
use Rattle.itd_sitd.specs.declared.itd.Itd.{Itd}
use Rattle.itd_sitd.specs.declared.sitd.Sitd.{Sitd}
use Rattle.itd_sitd.specs.Itd.{slot_of}
use Rattle.mem_bytes.specs.Bytes.{place}
use Rattle.toggle_error.specs.declared.host.Outcome.TheVariants.{Halt}
use Rattle.hc_copy.specs.Planning.{host_in}
use Rattle.hc_copy.specs.Overlay.{pages_of, buffer_place, moved}
use Rattle.hc_copy.specs.Transacting.{call_in, outcome_in, host_after}
use Rattle.hc_copy.specs.WriteBack.{moved_by as queue_moved_by, received}
use Rattle.hc_interrupt.specs.declared.turns.Turn.TheVariants as queue_turns
use Rattle.hc_interrupt.specs.Turns.{microframe_of, turn_of, planned, is_last_of}
use Rattle.hc_interrupt.specs.Copies.{with_split, goes_on}
use Rattle.hc_iso.specs.declared.held.IsoEnd.{IsoEnd}
use Rattle.hc_iso.specs.declared.held.SitdTurn.TheVariants as turns
use Rattle.hc_iso.specs.declared.held.SplitOutcome.{SplitOutcome}
use Rattle.hc_iso.specs.Itd.{itd_transaction, itd_after}
use Rattle.hc_iso.specs.Sitd.{sitd_turn, sitd_transaction, sitd_copy, missed_copy, sitd_place, moved_sitd}
use Rattle.hc_iso.specs.WriteBack.{itd_pages, slot_place, done_slot, sitd_pages, sitd_received, moved_by}
use Rattle.async_walk.specs.declared.state.WalkStep.{WalkStep}
use Rattle.async_walk.specs.declared.state.WalkStep.TheVariants as steps
use Rattle.periodic_walk.specs.Walk.{Walk}
use Rattle.periodic_walk.specs.Place.{FramePlace}
use Rattle.law_structures.specs.lent_structures.Structures.{QueueHead, Element, Buffer, Isochronous, SplitIsochronous, Structures, StructureSets, put}
use Rattle.law_structures.specs.lent_structures.Changes.{relinked}
use Rattle.law_structures.specs.lent_structures.WriteBack.{Received, Nothing as Nowhere, Into, IsReceived, received_parts, parts_back}
use Rattle.law_ring.specs.Hand.{Copy, Copied}
use Rattle.claims_base.specs.Controller.{base_of}
use Rattle.law_ring.specs.Effects.{Takes, received_into}
use Rattle.law_frames.specs.Met.{Kind}
use Rattle.law_frames.specs.FrameHand.{QueueSettlement, settled_in, ItdCopy, SitdCopy, FrameHand, Nothing, OfQueue, OfSettled, OfItd, OfSitd, fetched_copy, fetched_itd_copy, fetched_sitd_copy}
use Rattle.law_frames.specs.Frame.{received_of, IsFrame}

-- ---- bytes

pub record AreOfBuffer (part : Structures) (pages : List ℕ) (from n : ℕ) (out : List ℕ) : Type 0 where
  pub start : ℕ
  pub bytes : List ℕ
  pub here : part (place pages start) ≡ Some (Buffer pages start bytes)
  pub after : start ≤ from
  pub are : out ≡ take n (drop (from - start) bytes)

-- where there are any, they are those of one buffer
pub record AreOut (part : Structures) (pages : List ℕ) (from n : ℕ) (out : List ℕ) : Type 0 where
  pub count : length out ≡ n
  pub are : 0 < n → AreOfBuffer part pages from n out

pub record IsIntoAt (part : Structures) (pages : List ℕ) (from : ℕ) (got : List ℕ) (into : List ℕ) (k : ℕ) (bs : List ℕ) (j : ℕ) : Type 0 where
  pub pages_are : pages ≡ into
  pub buffer : part (place into k) ≡ Some (Buffer into k bs)
  pub place_is : from ≡ k + j
  pub fits : j + length got ≤ length bs
  pub bytes : (i : ℕ) → slice_index got i < 256

abbrev pub AreReceivedAt : Structures → List ℕ → ℕ → List ℕ → Received → Type 0
AreReceivedAt part pages from got Nowhere = got ≡ []
AreReceivedAt part pages from got (Into into k bs j) = IsIntoAt part pages from got into k bs j

-- ---- a structure is read, or the visit is over

pub record FetchesQueue (parts : StructureSets) (later : FrameHand) : Type 0 where
  pub at : ℕ
  pub queue : Qh
  pub here : parts at at ≡ Some (QueueHead queue)
  pub in_hand : later ≡ OfQueue (fetched_copy at queue) 0

-- the microframe of the walk is in hand
pub record FetchesItd (parts : StructureSets) (w : Walk) (later : FrameHand) : Type 0 where
  pub at : ℕ
  pub itd : Itd
  pub here : parts at at ≡ Some (Isochronous itd)
  pub in_hand : later ≡ OfItd (fetched_itd_copy at (microframe_of w.index) itd)

pub record FetchesSitd (parts : StructureSets) (later : FrameHand) : Type 0 where
  pub at : ℕ
  pub sitd : Sitd
  pub here : parts at at ≡ Some (SplitIsochronous sitd)
  pub in_hand : later ≡ OfSitd (fetched_sitd_copy at sitd)

pub data Fetches (parts : StructureSets) (w : Walk) (later : FrameHand) : Type 0 where
  of_queue : FetchesQueue parts later → Fetches parts w later
  of_itd : FetchesItd parts w later → Fetches parts w later
  of_sitd : FetchesSitd parts later → Fetches parts w later

-- something is in hand, and waits for no write-back
abbrev pub IsUnsettled : FrameHand → Type 0
IsUnsettled Nothing = ⊥
IsUnsettled (OfQueue c made) = Unit {0}
IsUnsettled (OfSettled c s made) = ⊥
IsUnsettled (OfItd c) = c.held.ended ≡ None
IsUnsettled (OfSitd c) = c.held.settled ≡ None

-- ---- a qTD is taken (4.10.2), as in a ring

pub record TakesOne (parts : StructureSets) (hand : FrameHand) (now : StructureSets) (later : FrameHand) : Type 0 where
  pub copy : Copy
  pub made : ℕ
  pub in_hand : hand ≡ OfQueue copy made
  pub new : Copy
  pub takes : Takes parts (Copied copy) now (Copied new)
  pub later_is : later ≡ OfQueue new made

-- ---- a transaction is made

-- What that of a queue head came to (4.10.3), in the microframe f of FRINDEX. A start-split notes the frame, with no complete-split made; a complete-split notes
-- its microframe (4.12.2.4.2).
abbrev pub frame_settlement : ℕ → Qh → List ℕ → Reply → QueueSettlement
frame_settlement f q out reply = record {
  host = host_after (planned q) out (is_last_of f q) reply;
  outcome = outcome_in (planned q) out (is_last_of f q) reply;
  got = received q (outcome_in (planned q) out (is_last_of f q) reply) reply;
  c_prog = (with_split f (planned q).split q).c_prog;
  frame_tag = (with_split f (planned q).split q).frame_tag;
}

pub record MakesOfQueue {W : Type 0} (transacts : W → Ask → List ℕ → Reply → W → Type 0) (parts : StructureSets) (w : Walk) (hand : FrameHand) (wire after : W) (later : FrameHand) : Type 0 where
  pub copy : Copy
  pub made : ℕ
  pub in_hand : hand ≡ OfQueue copy made
  pub works : copy.queue.token.active ≡ true
  pub turn : turn_of w.index copy.queue ≡ queue_turns.Work
  pub out : List ℕ
  pub sent : AreOut (parts copy.at) (pages_of copy.queue) (buffer_place copy.queue) (planned copy.queue).bytes out
  pub reply : Reply
  pub asked : transacts wire (call_in (planned copy.queue) out (is_last_of w.index copy.queue)).ask (call_in (planned copy.queue) out (is_last_of w.index copy.queue)).out reply after
  pub later_is : later ≡ OfSettled copy (frame_settlement w.index copy.queue out reply) (min (made + 1) 255)

pub record MakesOfItd {W : Type 0} (transacts : W → Ask → List ℕ → Reply → W → Type 0) (parts : StructureSets) (hand : FrameHand) (wire after : W) (later : FrameHand) : Type 0 where
  pub copy : ItdCopy
  pub in_hand : hand ≡ OfItd copy
  pub going : copy.held.ended ≡ None
  pub works : copy.held.slot.active ≡ true
  pub out : List ℕ
  pub sent : AreOut (parts copy.held.at) (itd_pages copy.held.itd) (slot_place copy.held.slot + copy.held.moved) (itd_transaction copy.held).bytes out
  pub reply : Reply
  pub asked : transacts wire (itd_transaction copy.held).ask out reply after
  pub later_is : later ≡ OfItd (record copy { held = itd_after reply copy.held })

pub record MakesOfSitd {W : Type 0} (transacts : W → Ask → List ℕ → Reply → W → Type 0) (parts : StructureSets) (w : Walk) (hand : FrameHand) (wire after : W) (later : FrameHand) : Type 0 where
  pub copy : SitdCopy
  pub in_hand : hand ≡ OfSitd copy
  pub unsettled : copy.held.settled ≡ None
  pub works : sitd_turn (microframe_of w.index) copy.held.sitd ≡ turns.Work
  pub out : List ℕ
  pub sent : AreOut (parts copy.held.at) (sitd_pages copy.held.sitd) (sitd_place copy.held.sitd) (sitd_transaction copy.held.sitd).bytes out
  pub reply : Reply
  pub asked : transacts wire (sitd_transaction copy.held.sitd).ask out reply after
  pub later_is : later ≡ OfSitd (record copy { held = sitd_copy (microframe_of w.index) reply copy.held })

pub data MakesOne {W : Type 0} (transacts : W → Ask → List ℕ → Reply → W → Type 0) (parts : StructureSets) (w : Walk) (hand : FrameHand) (wire after : W) (later : FrameHand) : Type 0 where
  of_queue : MakesOfQueue transacts parts w hand wire after later → MakesOne transacts parts w hand wire after later
  of_itd : MakesOfItd transacts parts hand wire after later → MakesOne transacts parts w hand wire after later
  of_sitd : MakesOfSitd transacts parts w hand wire after later → MakesOne transacts parts w hand wire after later

-- ---- a transaction is written back

-- the queue head in memory after it, and the copy where the visit goes on (4.10.4)
abbrev pub queue_written : Copy → QueueSettlement → Qh
queue_written c s = relinked c.queue (moved (settled_in c s) (queue_moved_by s.outcome))

abbrev pub after_back : Copy → QueueSettlement → ℕ → FrameHand
after_back c s made = if goes_on made (settled_in c s) s.outcome then OfQueue (record c { queue = queue_written c s }) made else Nothing

-- of a split transaction: the qTD halts with Missed Micro-Frame, and nothing is moved (4.12.2.4.1)
abbrev pub missed_settlement : Qh → QueueSettlement
missed_settlement q = record {
  host = record (host_in q) { missed = true; halted = true; active = false };
  outcome = Halt Miss;
  got = [];
  c_prog = q.c_prog;
  frame_tag = q.frame_tag;
}

-- its transaction was made; or one of its microframes was missed, which is written back at once
pub data IsSettledFrom (w : Walk) (hand : FrameHand) (copy : Copy) (settled : QueueSettlement) (made : ℕ) : Type 0 where
  was_worked : hand ≡ OfSettled copy settled made → IsSettledFrom w hand copy settled made
  was_missed : hand ≡ OfQueue copy made → turn_of w.index copy.queue ≡ queue_turns.Miss → settled ≡ missed_settlement copy.queue → IsSettledFrom w hand copy settled made

pub record WritesQueue (parts : StructureSets) (w : Walk) (hand : FrameHand) (now : StructureSets) (later : FrameHand) : Type 0 where
  pub copy : Copy
  pub settled : QueueSettlement
  pub made : ℕ
  pub from : IsSettledFrom w hand copy settled made
  pub element : Qtd
  pub here : parts copy.at copy.queue.current ≡ Some (Element element)
  pub received_is : IsReceived (parts copy.at) (settled_in copy settled) settled.got (received_into (parts copy.at) copy.queue element settled.got)
  pub now_is : now ≡ parts_back parts copy.at copy.at copy.queue (settled_in copy settled) (queue_moved_by settled.outcome) settled.got
      (received_into (parts copy.at) copy.queue element settled.got) element
  pub later_is : later ≡ after_back copy settled made

-- the word of its microframe alone (4.7.1)
abbrev pub itd_back : ItdCopy → Itd
itd_back c = record c.itd { slots = slice_set c.itd.slots c.held.number (done_slot c.held) }

abbrev pub itd_parts : StructureSets → ItdCopy → List ℕ → Received → StructureSets
itd_parts parts c got r = put (received_parts parts c.held.at got r) c.held.at c.held.at (Isochronous (itd_back c))

-- The microframe's Transaction Length notes just the bytes that were received (3.3.2); an OUT receives none.
pub record WritesItd (parts : StructureSets) (w : Walk) (hand : FrameHand) (now : StructureSets) (later : FrameHand) : Type 0 where
  pub copy : ItdCopy
  pub in_hand : hand ≡ OfItd copy
  pub end : IsoEnd
  pub ended : copy.held.ended ≡ Some end
  pub into : Received
  pub received_is : AreReceivedAt (parts copy.held.at) (itd_pages copy.held.itd) (slot_place copy.held.slot) w.got into
  pub count : length w.got ≡ received_of copy.held.itd.dir_in (slot_of copy.held.number (itd_back copy)).length
  pub now_is : now ≡ itd_parts parts copy w.got into
  pub nothing : later ≡ Nothing

-- all but its link, which isn't written (4.12.3.3)
abbrev pub sitd_back : SitdCopy → ℕ → Sitd
sitd_back c n = record (moved_sitd n c.held.sitd) { link = c.sitd.link }

abbrev pub sitd_parts : StructureSets → SitdCopy → ℕ → List ℕ → Received → StructureSets
sitd_parts parts c n got r = put (received_parts parts c.held.at got r) c.held.at c.held.at (SplitIsochronous (sitd_back c n))

-- its transaction was made; or one of its microframes was missed, which is written back at once
pub data IsWrittenFrom (w : Walk) (copy back : SitdCopy) : Type 0 where
  made : back ≡ copy → IsWrittenFrom w copy back
  missed : copy.held.settled ≡ None → sitd_turn (microframe_of w.index) copy.held.sitd ≡ turns.Miss → back ≡ record copy { held = missed_copy copy.held } → IsWrittenFrom w copy back

-- Its Total Bytes To Transfer are less by just the bytes that were moved, which for an IN are those that were received (3.4.3); an OUT receives none.
pub record WritesSitd (parts : StructureSets) (w : Walk) (hand : FrameHand) (now : StructureSets) (later : FrameHand) : Type 0 where
  pub copy : SitdCopy
  pub in_hand : hand ≡ OfSitd copy
  pub back : SitdCopy
  pub written : IsWrittenFrom w copy back
  pub outcome : SplitOutcome
  pub settled : back.held.settled ≡ Some outcome
  pub into : Received
  pub received_is : AreReceivedAt (parts copy.held.at) (sitd_pages back.held.sitd) (sitd_place back.held.sitd) (sitd_received back.held.sitd.dir_in outcome w.reply) into
  pub count : length (sitd_received back.held.sitd.dir_in outcome w.reply) ≡ received_of back.held.sitd.dir_in (moved_by outcome)
  pub left : (sitd_back back (moved_by outcome)).total + moved_by outcome ≡ copy.sitd.total
  pub now_is : now ≡ sitd_parts parts back (moved_by outcome) (sitd_received back.held.sitd.dir_in outcome w.reply) into
  pub nothing : later ≡ Nothing

pub data WritesOne (parts : StructureSets) (w : Walk) (hand : FrameHand) (now : StructureSets) (later : FrameHand) : Type 0 where
  of_queue : WritesQueue parts w hand now later → WritesOne parts w hand now later
  of_itd : WritesItd parts w hand now later → WritesOne parts w hand now later
  of_sitd : WritesSitd parts w hand now later → WritesOne parts w hand now later

-- ---- an event

pub data FrameEffect {W : Type 0} (transacts : W → Ask → List ℕ → Reply → W → Type 0) (parts : StructureSets) (w : Walk) (hand : FrameHand) (wire after : W) (now : StructureSets) (later : FrameHand) : WalkStep → Type 0 where
  fetches : hand ≡ Nothing → Fetches parts w later → now ≡ parts → after ≡ wire → FrameEffect transacts parts w hand wire after now later steps.Fetch
  passes : IsUnsettled hand → later ≡ Nothing → now ≡ parts → after ≡ wire → FrameEffect transacts parts w hand wire after now later steps.Skip
  ends : hand ≡ Nothing → later ≡ Nothing → now ≡ parts → after ≡ wire → FrameEffect transacts parts w hand wire after now later steps.Ended
  takes : TakesOne parts hand now later → after ≡ wire → FrameEffect transacts parts w hand wire after now later steps.Advance
  makes : MakesOne transacts parts w hand wire after later → now ≡ parts → FrameEffect transacts parts w hand wire after now later steps.Transact
  writes : WritesOne parts w hand now later → after ≡ wire → FrameEffect transacts parts w hand wire after now later steps.WriteBack

pub record FrameHappens {W : Type 0} (transacts : W → Ask → List ℕ → Reply → W → Type 0) (met : ℕ → Option Kind) (parts : StructureSets) (hand : FrameHand) (wire after : W) (p new : FramePlace) (kind : WalkStep) : Type 0 where
  pub now : StructureSets
  pub later : FrameHand
  pub frame : IsFrame met now later new
  pub registers : base_of new.registers ≡ base_of p.registers
  pub effect : FrameEffect transacts parts p.walk hand wire after now later kind
