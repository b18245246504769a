-- The queue of a control endpoint while no request of it is under way (EHCI 1.0, 4.10; USB 2.0, 8.5.3 and 9.3): its overlay isn't active, and where it
-- isn't halted it leads to the inactive qTD at its end.
--     IsAtRest ..                so it is, and this is the device's side of the endpoint
--     IsOtherEndpoint, IsAlone   no other queue head that the walk may meet is one of this endpoint
--     IsBeside n effect          an event that takes no qTD of the queue head at n, makes no transaction of it, and writes none back
--     RestStays ..               the queue is at rest after an event as before it, and nothing was asked of it
--     EffectKeepsRest            the law of the walk
--     HasRest ..                 the last request is done, and the queue at rest
--     IsStopped parts n          the queue head is halted in memory
--     DoneRests, HaltRests       the laws: the last request has ended, or the queue head is halted
--     IsFirstStore ..            a qTD that is stored at the queue's end is the SETUP of a request that is laid out
--     HasBegun ..                that request is the one of a queue that asks
--     QueueGrows                 the law
--     HeadStays part now n       the overlay and the endpoint of the queue head at n are as they were, whatever its link
--     SameSide hand later n      what is in hand has the same side of the queue head at n
--     RestIsSame ..              the queue is at rest, and no other queue head has its endpoint
--     RestIsSpared, AloneIsSpared, StoreSparesRest, LendSparesRest, ReleaseSparesRest, LinkSparesRest, MendSparesRest
--                                the laws of what is written beside it, and so of a store, a lend, structures that are given back, a link that is
--                                stored, and another queue head that is mended
--     MendedRests                the law where the queue head itself is mended
use Rattle.std.specs.Prelude.{◌≡◌, ◌≢◌, ℕ, suc, Bool, true, false, List, Option, Some}
use Rattle.usb_base.specs.declared.packets.Ask.{Ask}
use Rattle.usb_base.specs.declared.packets.Reply.{Reply}
use Rattle.link_words.specs.declared.fields.LinkBits.{LinkBits}
use Rattle.link_words.specs.declared.kinds.QtdLink.TheVariants.{To}
use Rattle.link_words.specs.Links.{qtd_link_of}
use Rattle.qh_qtd.specs.declared.qtd.Qtd.{Qtd}
use Rattle.qh_qtd.specs.declared.queue_head.Qh.{Qh}
use Rattle.hc_copy.specs.Planning.{host_in}
use Rattle.hc_copy.specs.Visits.{next_pointer}
use Rattle.async_walk.specs.declared.state.WalkStep.{WalkStep}
use Rattle.law_structures.specs.lent_structures.Structures.{Structure, QueueHead, Element, Structures, StructureSets, put}
use Rattle.law_structures.specs.lent_structures.Sound.{HasBuffer, IsMember}
use Rattle.dev_control.specs.Stages.{Stages}
use Rattle.law_request.specs.Host.{Endpoint, Setup, has_data}
use Rattle.claims_report.specs.ControlSides.{Device}
use Rattle.law_devices.specs.request_calls.Bus.{device_of, IsControlBus}
use Rattle.law_devices.specs.request_calls.Stages.{IsEndpoint}
use Rattle.law_ring.specs.Hand.{Hand}
use Rattle.law_ring.specs.Ring.{IsInHand}
use Rattle.law_ring.specs.Effects.{Effect}
use Rattle.law_ring.specs.Effects.Effect.{takes, makes, writes_back}
use Rattle.law_ring.specs.Streams.{AreMembers}
use Rattle.law_ring.specs.Stores.{hand_linked, hand_stale}
use Rattle.law_ring.specs.Fewer.{without_those}
use Rattle.law_ring.specs.Front.{SameRest}
use Rattle.law_ring.specs.Told.{HasEndpoint, endpoint_of, Endpoint as Characteristics}
use Rattle.law_devices.specs.ring_requests.Laid.{IsIdle}
use Rattle.law_devices.specs.ring_requests.Shown.{hand_side, AreFresh}
use Rattle.law_devices.specs.ring_requests.Windows.{Queue, sent_at, Lines, lines_at, HasEnded, IsActedOnce, IsQueue, AreLaid}

pub record IsAtRest (e : Endpoint) (c : Stages) (b : ℕ) (hand : Hand) (parts : StructureSets) (n : ℕ) (o : Option Device) : Type 0 where
  pub queue : Qh
  pub head : parts n n ≡ Some (QueueHead queue)
  pub control : IsEndpoint e queue
  pub idle : queue.token.active ≡ false
  pub unsettled : hand_side hand n queue ≡ host_in queue
  pub leads : queue.token.halted ≡ false → qtd_link_of (next_pointer queue) ≡ To b
  pub tail : IsIdle (parts n) b
  pub max : c.max ≡ e.max
  pub device : o ≡ Some (device_of e c)

-- ---- other queue heads

pub record IsOtherEndpoint (e : Endpoint) (parts : StructureSets) (k : ℕ) : Type 0 where
  pub own : Characteristics
  pub has : HasEndpoint parts k own
  pub other : e.addr ≡ own.addr → e.num ≡ own.ep → ⊥

abbrev pub IsAlone : (ℕ → Bool) → Endpoint → StructureSets → ℕ → Type 0
IsAlone member e parts n = (k : ℕ) → member k ≡ true → k ≢ n → IsOtherEndpoint e parts k

-- ---- the walk

abbrev pub IsBeside : {W : Type 0} {transacts : W → Ask → List ℕ → Reply → W → Type 0} {parts : StructureSets} {hand : Hand} {wire after : W} {now : StructureSets} {later : Hand} {kind : WalkStep}
    → ℕ → Effect transacts parts hand wire after now later kind → Type 0
IsBeside n (takes k quiet) = k.copy.at ≢ n
IsBeside n (makes m all) = m.copy.at ≢ n
IsBeside n (writes_back k quiet) = k.copy.at ≢ n
IsBeside n _ = Unit {0}

pub record RestStays {W : Type 0} {transacts : W → Ask → List ℕ → Reply → W → Type 0} {parts : StructureSets} {hand : Hand} {wire after : W} {now : StructureSets} {later : Hand} {kind : WalkStep}
    (device : W → ℕ → ℕ → Option Device) (member : ℕ → Bool) (e : Endpoint) (c : Stages) (b n : ℕ) (effect : Effect transacts parts hand wire after now later kind) : Type 0 where
  pub rest : IsAtRest e c b later now n (device after e.addr e.num)
  pub alone : IsAlone member e now n
  pub same : now n ≡ parts n
  pub beside : IsBeside n effect

abbrev pub EffectKeepsRest : {W : Type 0} → (W → Ask → List ℕ → Reply → W → Type 0) → (W → ℕ → ℕ → Option Device) → Type 0
EffectKeepsRest {W} transacts device = (member : ℕ → Bool) (e : Endpoint) (c : Stages) (b n : ℕ) (parts : StructureSets) (hand : Hand) (reply : Reply) (wire after : W)
    (now : StructureSets) (later : Hand) (kind : WalkStep) (effect : Effect transacts parts hand wire after now later kind)
    → IsControlBus transacts device → AreMembers member parts → IsInHand member parts reply hand → IsAlone member e parts n
    → IsAtRest e c b hand parts n (device wire e.addr e.num) → RestStays device member e c b n effect

-- ---- the end of its requests

-- the last of them is done
pub record HasRest (v : Queue) (l : Lines) (b i : ℕ) (hand : Hand) (parts : StructureSets) (n : ℕ) (o : Option Device) : Type 0 where
  pub last : l.under ≡ i
  pub once : IsActedOnce (sent_at v i) (l.line i) hand parts n
  pub rest : IsAtRest v.endpoint (l.line i).device b hand parts n o

abbrev pub DoneRests : Type 0
DoneRests = (member : ℕ → Bool) (parts : StructureSets) (hand : Hand) (reply : Reply) (n i b : ℕ) (v : Queue) (l : Lines) (o : Option Device)
    → IsMember member n (parts n) → IsInHand member parts reply hand → IsQueue v l hand parts n o → suc i ≡ v.count
    → (v.places i).behind ≡ Some b → HasEnded (sent_at v i) parts n → HasRest v l b i hand parts n o

-- memory shows that the queue head is halted
pub record IsStopped (parts : StructureSets) (n : ℕ) : Type 0 where
  pub queue : Qh
  pub head : parts n n ≡ Some (QueueHead queue)
  pub halted : queue.token.halted ≡ true

-- the device is left as by the request under way, whatever is behind that
abbrev pub HaltRests : Type 0
HaltRests = (member : ℕ → Bool) (parts : StructureSets) (hand : Hand) (reply : Reply) (n i b : ℕ) (v : Queue) (l : Lines) (o : Option Device)
    → IsMember member n (parts n) → IsInHand member parts reply hand → IsQueue v l hand parts n o → suc i ≡ v.count
    → (v.places i).behind ≡ Some b → IsStopped parts n → IsAtRest v.endpoint (l.line l.under).device b hand parts n o

-- ---- a first request

-- the SETUP stands at the queue's end
pub record IsFirstStore (v : Queue) (b : ℕ) (part : Structures) : Type 0 where
  pub one : v.count ≡ 1
  pub setup : (v.places 0).setup ≡ b
  pub fresh : AreFresh v.endpoint (v.requests 0) (v.places 0) part Setup
  pub buffer : has_data (v.requests 0) ≡ true → (t : Qtd) → part (v.places 0).data_at ≡ Some (Element t) → HasBuffer part t t.token.total
  pub tail : (a : ℕ) → (v.places 0).behind ≡ Some a → IsIdle part a

pub record HasBegun (v : Queue) (c : Stages) (hand : Hand) (parts : StructureSets) (n : ℕ) (o : Option Device) (q : Qh) : Type 0 where
  pub laid : AreLaid v hand parts n q
  pub asks : IsQueue v (lines_at v q.token.ping c) hand parts n o

abbrev pub QueueGrows : Type 0
QueueGrows = (v : Queue) (c : Stages) (b n : ℕ) (hand : Hand) (parts : StructureSets) (o : Option Device) (new : Qtd) (k : IsAtRest v.endpoint c b hand parts n o) → k.queue.token.halted ≡ false
    → IsFirstStore v b (put parts n b (Element new) n) → HasBegun v c hand (put parts n b (Element new)) n o k.queue

-- ---- what is beside it

pub record HeadStays (part now : Structures) (n : ℕ) : Type 0 where
  pub queue : Qh
  pub here : part n ≡ Some (QueueHead queue)
  pub later : Qh
  pub there : now n ≡ Some (QueueHead later)
  pub rest : SameRest queue later
  pub own : endpoint_of later ≡ endpoint_of queue

-- what is in hand has the same side of the queue head at n
abbrev pub SameSide : Hand → Hand → ℕ → Type 0
SameSide hand later n = (q : Qh) → hand_side later n q ≡ hand_side hand n q

abbrev pub RestIsSpared : Type 0
RestIsSpared = (e : Endpoint) (c : Stages) (b n : ℕ) (hand later : Hand) (parts now : StructureSets) (o : Option Device) → SameSide hand later n → HeadStays (parts n) (now n) n → IsIdle (now n) b
    → IsAtRest e c b hand parts n o → IsAtRest e c b later now n o

abbrev pub AloneIsSpared : Type 0
AloneIsSpared = (member : ℕ → Bool) (e : Endpoint) (n : ℕ) (parts now : StructureSets) → ((k : ℕ) (own : Characteristics) → k ≢ n → HasEndpoint parts k own → HasEndpoint now k own)
    → IsAlone member e parts n → IsAlone member e now n

pub record RestIsSame (member : ℕ → Bool) (e : Endpoint) (c : Stages) (b : ℕ) (hand : Hand) (now : StructureSets) (n : ℕ) (o : Option Device) : Type 0 where
  pub rest : IsAtRest e c b hand now n o
  pub alone : IsAlone member e now n

-- a qTD is stored over, or another one than that at its end, or it isn't active after it
abbrev pub StoreSparesRest : Type 0
StoreSparesRest = (member : ℕ → Bool) (e : Endpoint) (c : Stages) (b n : ℕ) (hand : Hand) (parts : StructureSets) (o : Option Device) (k a : ℕ) (old new : Qtd)
    → parts k a ≡ Some (Element old) → (k ≡ n → a ≡ b → new.token.active ≡ false) → IsAlone member e parts n → IsAtRest e c b hand parts n o
    → RestIsSame member e c b hand (put parts k a (Element new)) n o

-- further structures stand beside those that were there
abbrev pub LendSparesRest : Type 0
LendSparesRest = (member : ℕ → Bool) (e : Endpoint) (c : Stages) (b n : ℕ) (hand : Hand) (parts now : StructureSets) (o : Option Device)
    → ((k a : ℕ) (s : Structure) → parts k a ≡ Some s → now k a ≡ Some s) → IsAlone member e parts n → IsAtRest e c b hand parts n o → RestIsSame member e c b hand now n o

-- structures of the queue head at k are given back: not itself, and where it is this queue not the qTD at its end
abbrev pub ReleaseSparesRest : Type 0
ReleaseSparesRest = (member : ℕ → Bool) (e : Endpoint) (c : Stages) (b n : ℕ) (hand : Hand) (parts : StructureSets) (o : Option Device) (k : ℕ) (goes : ℕ → Bool)
    → goes k ≡ false → (k ≡ n → goes b ≡ false) → IsAlone member e parts n → IsAtRest e c b hand parts n o → RestIsSame member e c b hand (without_those parts k goes) n o

-- a link is stored in the queue head at k, which may be its own
abbrev pub LinkSparesRest : Type 0
LinkSparesRest = (member : ℕ → Bool) (e : Endpoint) (c : Stages) (b n : ℕ) (hand : Hand) (parts : StructureSets) (o : Option Device) (k : ℕ) (q : Qh) (l : LinkBits) → parts k k ≡ Some (QueueHead q)
    → IsAlone member e parts n → IsAtRest e c b hand parts n o → RestIsSame member e c b (hand_linked k l hand) (put parts k k (QueueHead (record q { link = l }))) n o

-- a halted queue head is mended: another one
abbrev pub MendSparesRest : Type 0
MendSparesRest = (member : ℕ → Bool) (e : Endpoint) (c : Stages) (b n : ℕ) (hand : Hand) (parts : StructureSets) (o : Option Device) (k : ℕ) (q new : Qh) → k ≢ n → parts k k ≡ Some (QueueHead q)
    → endpoint_of new ≡ endpoint_of q → IsAlone member e parts n → IsAtRest e c b hand parts n o → RestIsSame member e c b (hand_stale k hand) (put parts k k (QueueHead new)) n o

-- or its own, so that it leads to the inactive qTD at d
abbrev pub MendedRests : Type 0
MendedRests = (member : ℕ → Bool) (e : Endpoint) (c : Stages) (b d n : ℕ) (hand : Hand) (reply : Reply) (parts : StructureSets) (o : Option Device) (new : Qh) → IsInHand member parts reply hand
    → IsAlone member e parts n → (k : IsAtRest e c b hand parts n o) → endpoint_of new ≡ endpoint_of k.queue → new.token.active ≡ false
    → (new.token.halted ≡ false → qtd_link_of (next_pointer new) ≡ To d) → IsIdle (parts n) d → RestIsSame member e c d (hand_stale n hand) (put parts n n (QueueHead new)) n o
