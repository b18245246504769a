-- The walk of the frames at any moment (EHCI 1.0, 4.6, 4.7.1, 4.10 and 4.12.3): wherever it is and whatever it has in hand, over told structures.
--     IsQueueSettled q reply z what the last transaction of a queue head came to, where this reply was heard; its C-prog-mask and FrameTag are in their ranges
--     IsCopiedQueue, IsCopiedItd, IsCopiedSitd
--                              a copy in hand is one of a structure that is met, and leads to others; its link may be an older one
--     HasSameExtent s t        two words of a microframe tell the same bytes, and both are active or neither
--     received_of in n         of n bytes that were moved, how many were received: all where they come in, and none where they go out
--     IsMoved c reply o        what a transaction of a siTD changed: no word but its state and its transaction position; and what it received
--     IsTurned c reply settled nothing, before its transaction
--     IsInFrame ..             what is in hand is so
--     IsFrameWalk met parts hand p
--                              the walk is among those that are met, and has this in hand
--     IsFrame met parts hand p memory is told by these structures, those that are met are sound, and the walk is so
use Rattle.std.specs.Prelude.{◌≡◌, ℕ, ◌+◌, ◌<◌, Bool, true, false, List, length, slice_index, Option, Some, None}
use Rattle.usb_base.specs.declared.packets.Reply.{Reply}
use Rattle.link_words.specs.Links.{link_of}
use Rattle.qh_qtd.specs.declared.queue_head.Qh.{Qh}
use Rattle.qh_qtd.specs.QueueHead.{IsQhInRange}
use Rattle.itd_sitd.specs.declared.slot.ItdSlot.{ItdSlot}
use Rattle.itd_sitd.specs.declared.sitd.Sitd.{Sitd}
use Rattle.itd_sitd.specs.Itd.{slot_of}
use Rattle.itd_sitd.specs.Sitd.{IsSitdInRange}
use Rattle.hc_iso.specs.declared.held.SplitOutcome.{SplitOutcome}
use Rattle.hc_iso.specs.Itd.{IsItdHeld}
use Rattle.hc_iso.specs.WriteBack.{sitd_received, moved_by}
use Rattle.periodic_walk.specs.Place.{FramePlace}
use Rattle.law_structures.specs.lent_structures.Structures.{QueueHead, Isochronous, SplitIsochronous, StructureSets, Tells}
use Rattle.law_ring.specs.Hand.{Copy, copied_queue}
use Rattle.law_ring.specs.Ring.{IsSettled}
use Rattle.law_frames.specs.Met.{Kind, AQueue, AnItd, ASitd, LeadsTo, IsMetAs}
use Rattle.law_frames.specs.FrameHand.{QueueSettlement, came, ItdCopy, SitdCopy, FrameHand, Nothing, OfQueue, OfSettled, OfItd, OfSitd, frame_held}

-- ---- bytes

abbrev pub received_of : Bool → ℕ → ℕ
received_of true n = n
received_of false n = 0

-- ---- a queue head

pub record IsCopiedQueue (met : ℕ → Option Kind) (parts : StructureSets) (c : Copy) : Type 0 where
  pub on : met c.at ≡ Some AQueue
  pub here : parts c.at c.at ≡ Some (QueueHead c.queue)
  pub link : LeadsTo met (link_of c.link)
  pub range : IsQhInRange (copied_queue c)

pub record IsQueueSettled (q : Qh) (reply : Reply) (z : QueueSettlement) : Type 0 where
  pub came_to : IsSettled q reply (came z)
  pub prog : z.c_prog < 256
  pub tag : z.frame_tag < 32

-- ---- an iTD (4.7.1)

pub record HasSameExtent (s t : ItdSlot) : Type 0 where
  pub page : t.pg ≡ s.pg
  pub offset : t.offset ≡ s.offset
  pub length : t.length ≡ s.length
  pub active : t.active ≡ s.active

-- it received these bytes: just as many as were moved where they come in, and none where they go out; and where any were moved its microframe is active
pub record IsCopiedItd (met : ℕ → Option Kind) (parts : StructureSets) (got : List ℕ) (c : ItdCopy) : Type 0 where
  pub on : met c.held.at ≡ Some AnItd
  pub here : parts c.held.at c.held.at ≡ Some (Isochronous c.itd)
  pub link : LeadsTo met (link_of c.held.itd.link)
  pub same : record c.held.itd { link = c.itd.link } ≡ c.itd
  pub held : IsItdHeld c.held
  pub slot : HasSameExtent (slot_of c.held.number c.itd) c.held.slot
  pub count : length got ≡ received_of c.held.itd.dir_in c.held.moved
  pub small : (i : ℕ) → slice_index got i < 256
  pub begun : 0 < c.held.moved → c.held.slot.active ≡ true

-- ---- a siTD (4.12.3)

-- v, with what a transaction or a miss may change as it is in w
abbrev pub turned : Sitd → Sitd → Sitd
turned v w = record v {
  split_state = w.split_state;
  missed = w.missed;
  xact_err = w.xact_err;
  babble = w.babble;
  err = w.err;
  active = w.active;
  c_prog = w.c_prog;
  total = w.total;
  t_count = w.t_count;
  tp = w.tp;
}

-- it was active, and has as many bytes left as weren't moved; where they come in, those that were moved are those that were received
pub record IsMoved (c : SitdCopy) (reply : Reply) (o : SplitOutcome) : Type 0 where
  pub works : c.sitd.active ≡ true
  pub same : record (turned c.sitd c.held.sitd) { link = c.held.sitd.link } ≡ c.held.sitd
  pub left : c.held.sitd.total + moved_by o ≡ c.sitd.total
  pub count : length (sitd_received c.held.sitd.dir_in o reply) ≡ received_of c.held.sitd.dir_in (moved_by o)
  pub small : (i : ℕ) → slice_index (sitd_received c.held.sitd.dir_in o reply) i < 256

abbrev pub IsTurned : SitdCopy → Reply → Option SplitOutcome → Type 0
IsTurned c reply None = record c.held.sitd { link = c.sitd.link } ≡ c.sitd
IsTurned c reply (Some o) = IsMoved c reply o

pub record IsCopiedSitd (met : ℕ → Option Kind) (parts : StructureSets) (reply : Reply) (c : SitdCopy) : Type 0 where
  pub on : met c.held.at ≡ Some ASitd
  pub here : parts c.held.at c.held.at ≡ Some (SplitIsochronous c.sitd)
  pub link : LeadsTo met (link_of c.held.sitd.link)
  pub range : IsSitdInRange c.held.sitd
  pub turn : IsTurned c reply c.held.settled

-- ---- the whole

abbrev pub IsInFrame : (ℕ → Option Kind) → StructureSets → List ℕ → Reply → FrameHand → Type 0
IsInFrame met parts got reply Nothing = Unit {0}
IsInFrame met parts got reply (OfQueue c made) = IsCopiedQueue met parts c
IsInFrame met parts got reply (OfSettled c s made) = IsCopiedQueue met parts c × IsQueueSettled c.queue reply s
IsInFrame met parts got reply (OfItd c) = IsCopiedItd met parts got c
IsInFrame met parts got reply (OfSitd c) = IsCopiedSitd met parts reply c

pub record IsFrameWalk (met : ℕ → Option Kind) (parts : StructureSets) (hand : FrameHand) (p : FramePlace) : Type 0 where
  pub cursor : LeadsTo met p.walk.cursor
  pub held : p.walk.hand ≡ frame_held hand
  pub in_hand : IsInFrame met parts p.walk.got p.walk.reply hand

pub record IsFrame (met : ℕ → Option Kind) (parts : StructureSets) (hand : FrameHand) (p : FramePlace) : Type 0 where
  pub tells : Tells p.memory parts
  pub members : (n : ℕ) (kind : Kind) → met n ≡ Some kind → IsMetAs met n (parts n) kind
  pub walk : IsFrameWalk met parts hand p
