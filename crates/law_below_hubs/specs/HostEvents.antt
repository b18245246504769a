-- An endpoint with a stream, below a hub, at an event of the controller, whichever walk it is of (EHCI 1.0, 4.8 to 4.12; USB 2.0, 8.6,
-- 11.17 and 11.18).
--     hand_host hand n q       the host's side of the queue head q at n, which a transaction left that isn't written back, or its overlay
--     RestsToStart host        a host that rests, and isn't halted, starts next
--     StartsFirst part         each published qTD begins with a start-split
--     IsHostLike before now    an event that makes no transaction leaves it so
--     IsApart hand n           no transaction of the queue head at n is to be written back
--     told_key kind dir x      the key of an endpoint of this kind that a queue head tells
--     IsOutBehind, IsInBehind  the queue head at n is that of an OUT endpoint of this kind below the hub, or of an IN endpoint, and host,
--                              hub and device stand as they must
--     AsksElse dir part x y    a queue head of the endpoint y asks not x, or only in the other direction
--     AsksAlone dir near parts n x     so does each other queue head that is met
--     KeepsSent ..             no transaction of the queue head is made, and the packet that was sent last stays; or one is, which leaves
--                              its structures
--     IsWalkedAs kind ..       the frames meet a queue head of this kind, or the ring does
--     StartsFindNoneTold ..    where the frames make a start-split of it, the hub's pipeline has nothing of the key that was told
--     AsksInTime ..            where the frames make a transaction of it, its host is in time
--     BeginsNoFrame z host     the event is no Begin at which a frame begins, or the host doesn't wait
--     StaysInTime z host timely still     so a host that is in time still is
--     EventKeepsOutBehind, EventKeepsInBehind     each event keeps it so
use Rattle.std.specs.Prelude.{◌≡◌, ◌≢◌, ℕ, ◌%◌, ◌⊎◌, ◌==◌, Bool, true, false, not, List, [], ◌++◌, Option, Some}
use Rattle.std.specs.Prelude.{if◌then◌else◌}
use Rattle.usb_base.specs.declared.packets.Ask.{Ask}
use Rattle.usb_base.specs.declared.packets.Dir.{Dir}
use Rattle.usb_base.specs.declared.packets.Dir.TheVariants as Directions
use Rattle.usb_base.specs.declared.packets.EpKind.{EpKind}
use Rattle.usb_base.specs.declared.packets.EpKind.TheVariants as Kinds
use Rattle.usb_base.specs.declared.packets.Reply.{Reply}
use Rattle.hub_keys.specs.declared.key.Key.{Key}
use Rattle.bus_wire.specs.Bus.{Wired}
use Rattle.qh_qtd.specs.declared.qtd.Qtd.{Qtd}
use Rattle.qh_qtd.specs.declared.queue_head.Qh.{Qh}
use Rattle.drv_table.specs.DriverContent.{DriverContent}
use Rattle.toggle_error.specs.declared.host.HostSide.{HostSide}
use Rattle.hc_copy.specs.Planning.{host_in}
use Rattle.hc_core.specs.Controller.{Content}
use Rattle.hc_interrupt.specs.Turns.{is_last_of}
use Rattle.periodic_walk.specs.Walk.{Walk}
use Rattle.claims_base.specs.Controller.{Base}
use Rattle.claims_report.specs.Streams.{has_stream}
use Rattle.law_structures.specs.lent_structures.Structures.{QueueHead, Element, Structures, StructureSets}
use Rattle.law_ring.specs.Hand.{Copy, Settlement, Hand, Empty, Copied, Settled, Stale}
use Rattle.law_ring.specs.QueueParts.{IsQueuePart}
use Rattle.law_ring.specs.Told.{Endpoint, endpoint_of, HasEndpoint}
use Rattle.law_ring.specs.OutPipes.{IsOut}
use Rattle.law_ring.specs.Pipes.{IsIn}
use Rattle.law_frames.specs.Met.{Kind, AQueue}
use Rattle.law_frames.specs.FrameEffects.{MakesOfQueue}
use Rattle.law_frames.specs.FrameHand.{FrameHand}
use Rattle.law_frames.specs.FrameStreams.{IsIsoAsk}
use Rattle.law_controller.specs.frame_control.Both.{RunsBoth, BothEffect}
use Rattle.law_controller.specs.frame_control.Joined.{joined, BothStreamEffect, begun, moved}
use Rattle.law_devices.specs.scripted_requests.Controls.{transacts_by, begins_by}
use Rattle.law_descriptors.specs.Both.{both, parts_now}
use Rattle.law_descriptors.specs.PartLaws.{IsDescribing}
use Rattle.law_descriptors.specs.queue_events.Streams.{bytes_of_both}
use Rattle.law_descriptors.specs.queue_events.Pipes.{AskedAreNear}
use Rattle.law_below_hubs.specs.HostIns.{InSide, IsInTime, SparesKey}
use Rattle.law_below_hubs.specs.HostOuts.{FindsNoneTold, OutHost, IsOfOther}
use Rattle.law_below_hubs.specs.Splits.{IsAtHub}

-- ---- the host's side

abbrev pub hand_host : Hand → ℕ → Qh → HostSide
hand_host Empty n q = host_in q
hand_host (Copied c) n q = host_in q
hand_host (Settled c z) n q = if c.at == n then z.host else host_in q
hand_host (Stale m old) n q = host_in q

abbrev pub RestsToStart : HostSide → Type 0
RestsToStart host = host.active ≡ false → host.halted ≡ false → host.waiting ≡ false

abbrev pub StartsFirst : Structures → Type 0
StartsFirst part = (a : ℕ) (t : Qtd) → part a ≡ Some (Element t) → t.token.active ≡ true → t.token.split_state ≡ false

-- what an event leaves of it that makes no transaction; one that was halted stays so, until it is mended
pub record IsHostLike (before now : HostSide) : Type 0 where
  pub waiting : now.waiting ≡ before.waiting
  pub rests : RestsToStart now
  pub halted : now.halted ≡ false → before.halted ≡ false

abbrev pub IsApart : Hand → ℕ → Type 0
IsApart hand n = (c : Copy) (z : Settlement) → hand ≡ Settled c z → c.at ≡ n → ⊥

-- ---- the pipe

abbrev pub told_key : EpKind → Dir → Endpoint → Key
told_key kind dir x = record { addr = x.addr; ep = x.ep; dir = dir; kind = kind }

pub record IsOutBehind (kind : EpKind) (w : Wired) (i place : ℕ) (known : List ℕ) (parts : StructureSets) (hand : Hand) (n : ℕ)
    (x : Endpoint) : Type 0 where
  pub queue : Qh
  pub head : parts n n ≡ Some (QueueHead queue)
  pub is : x ≡ endpoint_of queue
  pub below : (x.speed == 2) ≡ false
  -- its packets have the toggle of the queue head (3.6.2)
  pub own : x.dtc ≡ false
  pub outs : IsOut (parts n)
  pub first : StartsFirst (parts n)
  pub rests : RestsToStart (hand_host hand n queue)
  pub hub : IsAtHub w.bus.hubs x.hub x.port i place
  pub host : OutHost kind (parts n) hand n queue i place w (hand_host hand n queue).toggle (hand_host hand n queue).waiting known

-- where the host hasn't halted, both ends agree in the packets
pub record IsInBehind (kind : EpKind) (packets : List (List ℕ)) (w : Wired) (i place : ℕ) (timely : Bool) (known : List ℕ)
    (parts : StructureSets) (hand : Hand) (n : ℕ) (x : Endpoint) : Type 0 where
  pub queue : Qh
  pub head : parts n n ≡ Some (QueueHead queue)
  pub is : x ≡ endpoint_of queue
  pub below : (x.speed == 2) ≡ false
  pub own : x.dtc ≡ false
  pub ins : IsIn (parts n)
  pub first : StartsFirst (parts n)
  pub rests : RestsToStart (hand_host hand n queue)
  pub hub : IsAtHub w.bus.hubs x.hub x.port i place
  pub side : InSide packets (told_key kind Directions.In x) i place w (hand_host hand n queue).toggle (hand_host hand n queue).waiting
      (not (hand_host hand n queue).halted) timely known

-- ---- who asks

abbrev pub AsksBack : Dir → Structures → Type 0
AsksBack Directions.Out part = IsIn part
AsksBack Directions.In part = IsOut part

abbrev pub AsksElse : Dir → Structures → Endpoint → Endpoint → Type 0
AsksElse dir part x y = (x.addr ≡ y.addr → x.ep ≡ y.ep → ⊥) ⊎ AsksBack dir part

abbrev pub AsksAlone : Dir → (ℕ → Bool) → StructureSets → ℕ → Endpoint → Type 0
AsksAlone dir near parts n x = (m : ℕ) → near m ≡ true → m ≢ n → (y : Endpoint) × HasEndpoint parts m y × AsksElse dir (parts m) x y

-- ---- the law

pub data KeepsSent (part now : Structures) (works : Bool) (next later : Option (List ℕ)) (bytes : List ℕ) : Type 0 where
  sends_none : later ≡ next → bytes ≡ [] → KeepsSent part now works next later bytes
  makes_one : works ≡ true → now ≡ part → KeepsSent part now works next later bytes

-- an interrupt's is of a chain of the frames, a bulk endpoint's of the ring (3.6, 4.6 and 4.8)
abbrev pub IsWalkedAs : EpKind → (ℕ → Bool) → (ℕ → Option Kind) → ℕ → Type 0
IsWalkedAs Kinds.Interrupt member met n = member n ≡ true → ⊥
IsWalkedAs _ member met n = met n ≡ Some AQueue → ⊥

abbrev pub StartsFindNoneTold : EpKind → Endpoint → ℕ → ℕ → ℕ → StructureSets → Walk → FrameHand → Wired → Wired → FrameHand → Type 0
StartsFindNoneTold kind x i place n all walk frame wire after later = kind ≡ Kinds.Interrupt
    → (r : MakesOfQueue transacts_by all walk frame wire after later) → r.copy.at ≡ n → r.copy.queue.token.split_state ≡ false
    → FindsNoneTold (told_key kind Directions.Out x) i place wire

-- where the hub keeps its address and its translators
abbrev pub EventKeepsOutBehind : Type 0
EventKeepsOutBehind = (kind : EpKind) (near : ℕ → Bool) (n : ℕ) (x : Endpoint) (i place : ℕ) (known : List ℕ) (base : Base)
    (member : ℕ → Bool) (met : ℕ → Option Kind) (d : DriverContent) (descs parts : StructureSets) (hand : Hand) (frame : FrameHand)
    (c : Content) (wire after : Wired) (now : StructureSets) (later : Hand) (frame_later : FrameHand) → IsDescribing d descs parts
    → RunsBoth base member met (both descs parts) hand frame c
    → BothEffect begins_by transacts_by (both descs parts) c.control hand frame wire after now later frame_later
    → AskedAreNear near parts (joined hand frame) → AsksAlone Directions.Out near parts n x
    → ((ask : Ask) → IsIsoAsk (both descs parts) ask → IsOfOther (told_key kind Directions.Out x) ask)
    → has_stream kind ≡ true → IsWalkedAs kind member met n
    → StartsFindNoneTold kind x i place n (both descs parts) c.control.frame frame wire after frame_later
    → IsQueuePart n (parts n) → IsQueuePart n (parts_now descs parts now n) → IsAtHub after.bus.hubs x.hub x.port i place
    → (z : BothStreamEffect begins_by (IsIsoAsk (both descs parts)) transacts_by parts (joined hand frame) wire after
    (parts_now descs parts now) (joined later frame_later))
    → (k : IsOutBehind kind wire i place known parts (joined hand frame) n x)
    → (b : IsOutBehind kind after i place (known ++ bytes_of_both n z) (parts_now descs parts now) (joined later frame_later) n x)
    × KeepsSent (parts n) (parts_now descs parts now n) k.queue.token.active k.host.next b.host.next (bytes_of_both n z)

-- no request is made that takes the key from a hub
abbrev pub SparesKeyNow : Key → ℕ → ℕ → Wired → Wired → Type 0
SparesKeyNow k i place wire after = (ask : Ask) (out : List ℕ) (reply : Reply) → transacts_by wire ask out reply after
    → SparesKey k i place wire ask after

-- where the frames make a transaction of it, its host is in time
abbrev pub AsksInTime : EpKind → Endpoint → ℕ → ℕ → ℕ → Bool → StructureSets → Walk → FrameHand → Wired → Wired → FrameHand → Type 0
AsksInTime kind x i place n timely all walk frame wire after later = kind ≡ Kinds.Interrupt
    → (r : MakesOfQueue transacts_by all walk frame wire after later) → r.copy.at ≡ n
    → IsInTime (told_key kind Directions.In x) i place wire r.copy.queue.token.split_state (is_last_of walk.index r.copy.queue) timely

-- where a frame begins the host doesn't wait
abbrev pub BeginsNoFrame : {Beside : Ask → Type 0} {parts : StructureSets} {hand : Hand} {wire after : Wired} {now : StructureSets}
    {later : Hand} → BothStreamEffect begins_by Beside transacts_by parts hand wire after now later → HostSide → Type 0
BeginsNoFrame (begun index allowed asked told) host = index % 8 ≡ 0 → host.waiting ≡ false
BeginsNoFrame (moved z) host = Unit {0}

-- it is in time still
pub record StaysInTime {Beside : Ask → Type 0} {parts : StructureSets} {hand : Hand} {wire after : Wired} {now : StructureSets}
    {later : Hand} (z : BothStreamEffect begins_by Beside transacts_by parts hand wire after now later) (host : HostSide)
    (timely still : Bool) : Type 0 where
  pub before : still ≡ true → timely ≡ true
  pub begun : still ≡ true → BeginsNoFrame z host

abbrev pub EventKeepsInBehind : Type 0
EventKeepsInBehind = (kind : EpKind) (packets : List (List ℕ)) (near : ℕ → Bool) (n : ℕ) (x : Endpoint) (i place : ℕ)
    (timely still : Bool) (known : List ℕ) (base : Base) (member : ℕ → Bool)
    (met : ℕ → Option Kind) (d : DriverContent) (descs parts : StructureSets) (hand : Hand) (frame : FrameHand) (c : Content)
    (wire after : Wired) (now : StructureSets) (later : Hand) (frame_later : FrameHand) → IsDescribing d descs parts
    → RunsBoth base member met (both descs parts) hand frame c
    → BothEffect begins_by transacts_by (both descs parts) c.control hand frame wire after now later frame_later
    → AskedAreNear near parts (joined hand frame) → AsksAlone Directions.In near parts n x
    → ((ask : Ask) → IsIsoAsk (both descs parts) ask → IsOfOther (told_key kind Directions.In x) ask)
    → has_stream kind ≡ true → IsWalkedAs kind member met n
    → AsksInTime kind x i place n timely (both descs parts) c.control.frame frame wire after frame_later
    → IsQueuePart n (parts n) → IsQueuePart n (parts_now descs parts now n)
    → IsAtHub after.bus.hubs x.hub x.port i place → SparesKeyNow (told_key kind Directions.In x) i place wire after
    → (z : BothStreamEffect begins_by (IsIsoAsk (both descs parts)) transacts_by parts (joined hand frame) wire after
    (parts_now descs parts now) (joined later frame_later))
    → (k : IsInBehind kind packets wire i place timely known parts (joined hand frame) n x)
    → StaysInTime z (hand_host (joined hand frame) n k.queue) timely still
    → IsInBehind kind packets after i place still (known ++ bytes_of_both n z) (parts_now descs parts now) (joined later frame_later) n x
