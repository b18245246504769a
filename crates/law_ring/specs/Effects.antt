-- What an event of the walk is to the structures in memory and to what is in hand (EHCI 1.0, 4.8 to 4.10): it reads a queue head, passes on, takes
-- a qTD, makes one transaction, or writes one back. Nothing else changes, and of one queue head's structures alone.
--     Reads, Passes, Takes, Makes, WritesBack
--                              each of them
--     Asks                     one transaction of a queue head, whichever walk makes it; Makes is that of a ring
--     came_to m                what it came to
--     Effect .. kind           which of them an event of this kind is
--     Happens ..               the ring after an event, with its effect
use Rattle.std.specs.Prelude.{◌≡◌, ◌≢◌, ℕ, ◌-◌, ◌<◌, Bool, true, false, List, [], ◌∷◌, length, take, drop, slice_index, Option, Some}
use Rattle.usb_base.specs.declared.packets.Ask.{Ask}
use Rattle.usb_base.specs.declared.packets.EpKind.{EpKind}
use Rattle.usb_base.specs.declared.packets.EpKind.TheVariants.{Interrupt}
use Rattle.usb_base.specs.declared.packets.Pid.{Pid}
use Rattle.usb_base.specs.declared.packets.Reply.{Reply}
use Rattle.usb_base.specs.declared.packets.Reply.TheVariants.{Bytes}
use Rattle.link_words.specs.declared.kinds.QtdLink.TheVariants as qtd_links
use Rattle.link_words.specs.Links.{qtd_link_of}
use Rattle.qh_qtd.specs.declared.qtd.Qtd.{Qtd}
use Rattle.qh_qtd.specs.declared.queue_head.Qh.{Qh}
use Rattle.hc_copy.specs.Visits.{next_pointer}
use Rattle.hc_copy.specs.Overlay.{advanced, buffer_place}
use Rattle.hc_copy.specs.Planning.{transaction_of}
use Rattle.hc_copy.specs.Transacting.{call_in, outcome_in, host_after}
use Rattle.hc_copy.specs.WriteBack.{moved_by, received}
use Rattle.async_walk.specs.declared.state.WalkStep.{WalkStep}
use Rattle.async_walk.specs.declared.state.WalkStep.TheVariants as steps
use Rattle.async_walk.specs.Naks.{kind_at, planned, counts, naks_after}
use Rattle.async_walk.specs.Rows.{WalkPlace}
use Rattle.law_structures.specs.lent_structures.Structures.{Structure, QueueHead, Element, Buffer, Structures, StructureSets, put}
use Rattle.law_structures.specs.lent_structures.Sound.{element_pages, buffer_name}
use Rattle.law_structures.specs.lent_structures.WriteBack.{Received, Nothing, Into, IsReceived, parts_back}
use Rattle.law_ring.specs.Hand.{Copy, copied_queue, Settlement, settled_queue_of, Hand, Empty, Copied, Settled}
use Rattle.claims_base.specs.Controller.{Base}
use Rattle.law_ring.specs.Ring.{IsRing}
use Rattle.law_ring.specs.QueueParts.{IsQueuePart}

-- the bytes of a buffer
abbrev pub bytes_in : Option Structure → List ℕ
bytes_in (Some (Buffer pages k bs)) = bs
bytes_in _ = []

abbrev pub buffer_of : Structures → Qtd → List ℕ
buffer_of part t = bytes_in (part (buffer_name t))

-- ---- a queue head is read, or the visit is over

pub record Reads (parts : StructureSets) (hand later : Hand) : Type 0 where
  pub nothing : hand ≡ Empty
  pub copy : Copy
  pub here : parts copy.at copy.at ≡ Some (QueueHead copy.queue)
  pub link : copy.link ≡ copy.queue.link
  pub in_hand : later ≡ Copied copy

pub record Passes (hand later : Hand) : Type 0 where
  pub unsettled : (c : Copy) (s : Settlement) → hand ≢ Settled c s
  pub nothing : later ≡ Empty

-- ---- a qTD is taken

-- the copy with this qTD as its overlay
abbrev pub taken : Copy → ℕ → Qtd → Copy
taken c a t = record c { queue = advanced c.queue a t; naks = c.queue.rl }

pub record Takes (parts : StructureSets) (hand : Hand) (now : StructureSets) (later : Hand) : Type 0 where
  pub copy : Copy
  pub in_hand : hand ≡ Copied copy
  pub idle : copy.queue.token.active ≡ false
  pub goes_on : copy.queue.token.halted ≡ false
  pub element : ℕ
  pub qtd : Qtd
  pub leads : qtd_link_of (next_pointer copy.queue) ≡ qtd_links.To element
  pub here : parts copy.at element ≡ Some (Element qtd)
  pub published : qtd.token.active ≡ true
  pub now_is : now ≡ put parts copy.at copy.at (QueueHead (advanced copy.queue element qtd))
  pub later_is : later ≡ Copied (taken copy element qtd)

-- ---- a transaction is made

-- these are the n bytes that go out with it: those of the current qTD's buffer from the place on
pub record AreSent (part : Structures) (q : Qh) (n : ℕ) (out : List ℕ) : Type 0 where
  pub element : Qtd
  pub here : part q.current ≡ Some (Element element)
  pub are : out ≡ take n (drop (buffer_place q - element.offset) (buffer_of part element))
  pub all : length out ≡ n

-- what the transaction of a queue head came to, whose endpoint is of this kind; `last` tells a complete-split that is the last of its
-- frame (4.12.2)
abbrev pub settlement_as : EpKind → Qh → List ℕ → Bool → Reply → Settlement
settlement_as kind q out last reply = record {
  host = host_after (transaction_of kind q) out last reply;
  outcome = outcome_in (transaction_of kind q) out last reply;
  got = received q (outcome_in (transaction_of kind q) out last reply) reply;
}

-- .. in a ring
abbrev pub settlement : Qh → List ℕ → Reply → Settlement
settlement q out reply = settlement_as (kind_at q.dtc) q out false reply

abbrev pub counted : Copy → List ℕ → Reply → Copy
counted c out reply = record c { naks = naks_after (counts (outcome_in (planned c.queue) out false reply) reply) (copied_queue c) }

pub record Makes {W : Type 0} (transacts : W → Ask → List ℕ → Reply → W → Type 0) (parts : StructureSets) (hand : Hand) (wire after : W) (later : Hand) : Type 0 where
  pub copy : Copy
  pub in_hand : hand ≡ Copied copy
  pub works : copy.queue.token.active ≡ true
  pub out : List ℕ
  pub sent : AreSent (parts copy.at) copy.queue (planned copy.queue).bytes out
  pub reply : Reply
  pub made : transacts wire (call_in (planned copy.queue) out false).ask (call_in (planned copy.queue) out false).out reply after
  pub later_is : later ≡ Settled (counted copy out reply) (settlement copy.queue out reply)

-- ---- a transaction, whichever walk makes it

-- Of which kind an endpoint is, its schedule tells: in the ring DTC (3.6.2), and no complete-split is the last of its frame; in the
-- frames it is an interrupt endpoint.
pub data IsAskedAs (q : Qh) : EpKind → Bool → Type 0 where
  in_ring : IsAskedAs q (kind_at q.dtc) false
  in_frames : (last : Bool) → IsAskedAs q Interrupt last

-- the queue head stands there, and its part is sound; what is in hand after it is a copy of the same one, whose count of NAKs may differ
pub record Asks {W : Type 0} (transacts : W → Ask → List ℕ → Reply → W → Type 0) (parts : StructureSets) (hand : Hand) (wire after : W)
    (later : Hand) : Type 0 where
  pub copy : Copy
  pub in_hand : hand ≡ Copied copy
  pub here : parts copy.at copy.at ≡ Some (QueueHead copy.queue)
  pub part_is : IsQueuePart copy.at (parts copy.at)
  pub works : copy.queue.token.active ≡ true
  pub kind : EpKind
  pub last : Bool
  pub asked_as : IsAskedAs copy.queue kind last
  pub out : List ℕ
  pub sent : AreSent (parts copy.at) copy.queue (transaction_of kind copy.queue).bytes out
  pub reply : Reply
  pub made : transacts wire (call_in (transaction_of kind copy.queue) out last).ask
      (call_in (transaction_of kind copy.queue) out last).out reply after
  pub held : Copy
  pub at_same : held.at ≡ copy.at
  pub queue_same : held.queue ≡ copy.queue
  pub later_is : later ≡ Settled held (settlement_as kind copy.queue out last reply)

abbrev pub came_to : {W : Type 0} {transacts : W → Ask → List ℕ → Reply → W → Type 0} {parts : StructureSets} {hand : Hand}
    {wire after : W} {later : Hand} → Asks transacts parts hand wire after later → Settlement
came_to m = settlement_as m.kind m.copy.queue m.out m.last m.reply

-- ---- a transaction is written back

-- received bytes go into the buffer of the current qTD, from the place of the overlay on
abbrev pub received_into : Structures → Qh → Qtd → List ℕ → Received
received_into part q t [] = Nothing
received_into part q t (b ∷ bs) = Into (element_pages t) t.offset (buffer_of part t) (buffer_place q - t.offset)

pub record WritesBack (parts : StructureSets) (hand : Hand) (now : StructureSets) (later : Hand) : Type 0 where
  pub copy : Copy
  pub settled : Settlement
  pub in_hand : hand ≡ Settled copy settled
  pub element : Qtd
  pub here : parts copy.at copy.queue.current ≡ Some (Element element)
  pub received_is : IsReceived (parts copy.at) (settled_queue_of copy settled) settled.got (received_into (parts copy.at) copy.queue element settled.got)
  pub now_is : now ≡ parts_back parts copy.at copy.at copy.queue (settled_queue_of copy settled) (moved_by settled.outcome) settled.got
      (received_into (parts copy.at) copy.queue element settled.got) element
  pub nothing : later ≡ Empty

-- ---- an event

pub data Effect {W : Type 0} (transacts : W → Ask → List ℕ → Reply → W → Type 0) (parts : StructureSets) (hand : Hand) (wire after : W) (now : StructureSets) (later : Hand) : WalkStep → Type 0 where
  reads : Reads parts hand later → now ≡ parts → after ≡ wire → Effect transacts parts hand wire after now later steps.Fetch
  passes : Passes hand later → now ≡ parts → after ≡ wire → Effect transacts parts hand wire after now later steps.Skip
  ends : Passes hand later → now ≡ parts → after ≡ wire → Effect transacts parts hand wire after now later steps.Ended
  takes : Takes parts hand now later → after ≡ wire → Effect transacts parts hand wire after now later steps.Advance
  makes : Makes transacts parts hand wire after later → now ≡ parts → Effect transacts parts hand wire after now later steps.Transact
  writes_back : WritesBack parts hand now later → after ≡ wire → Effect transacts parts hand wire after now later steps.WriteBack

pub record Happens {W : Type 0} (transacts : W → Ask → List ℕ → Reply → W → Type 0) (base : Base) (member : ℕ → Bool) (parts : StructureSets) (hand : Hand) (wire after : W) (new : WalkPlace)
    (kind : WalkStep) : Type 0 where
  pub now : StructureSets
  pub later : Hand
  pub ring : IsRing base member now later new
  pub effect : Effect transacts parts hand wire after now later kind

-- what is heard has bytes below 256
abbrev pub AreBytesHeard : {W : Type 0} → (W → Ask → List ℕ → Reply → W → Type 0) → W → W → Type 0
AreBytesHeard transacts wire after = (ask : Ask) (out : List ℕ) (pid : Pid) (bs : List ℕ) → transacts wire ask out (Bytes pid bs) after → (i : ℕ) → slice_index bs i < 256
