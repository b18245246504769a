-- The host of a bulk or control endpoint below a hub, and what the hub has of its keys, where the host hears each answer of the hub and no
-- request takes a key from it (EHCI 1.0, 4.10 and 4.12; USB 2.0, 8.5 and 11.17): what the host waits for is there, or comes, and is an
-- answer that a full- or low-speed device may give.
--     suits pid reply        a device may answer this token so, or the hub for it
--     IsAwaited pid s        the hub has the transaction of this token, which isn't made yet, or its answer, which suits
--     StandsAs o s           the slot of a key holds what is awaited; nothing is to come where nothing is
--     IsTokenOf control pid dir      a token of this direction; a SETUP is one of control endpoints alone
--     IsOfWay control o dir  what is awaited is so
--     awaits waiting pid     the token that a host waits for, by its split state
--     awaits_in dir ..       .. in this direction
--     HasEnd control dir ..  a device has the endpoint of this number and way
--     KeyStands k i place w o     so the key stands, whose translator is at that place
--     AnswersSuit            what is heard of it on the bus below suits
--     Asking                 a bulk endpoint, whose qTDs have this PID code, or a control endpoint
--     IsCodeOf, faces        the PID codes of its qTDs, and the directions of its keys
--     HearsSplits ..         what the host hears in a split transaction of the key is the hub's answer
--     RestsIdle host         a host that rests waits for nothing, halted or not
--     OwnSplitsAreAwaited    the host's transactions, of which none counts an error
--     OthersLeaveKey         those of all other hosts
--     BeginLeavesKey         the work of the hubs
--     IsAwaiting ..          host and hub stand so at the queue head at n
--     EventKeepsAwaiting     so they do after each event
--     UnaskedLeavesKey       so stands the key of an endpoint that none asks
use Rattle.std.specs.Prelude.{◌≡◌, ◌≢◌, ◌⊎◌, ℕ, ◌==◌, ◌&&◌, Bool, true, false, List, Option, Some, None, is_some, slice_get}
use Rattle.std.specs.Prelude.{if◌then◌else◌}
use Rattle.usb_base.specs.declared.packets.EpKind.{EpKind}
use Rattle.usb_base.specs.declared.packets.Ask.{Ask}
use Rattle.usb_base.specs.declared.packets.DataPart.TheVariants as Parts
use Rattle.usb_base.specs.declared.packets.Dir.{Dir}
use Rattle.usb_base.specs.declared.packets.Dir.TheVariants as Directions
use Rattle.usb_base.specs.declared.packets.EpKind.TheVariants as Kinds
use Rattle.usb_base.specs.declared.packets.Pid.{Pid}
use Rattle.usb_base.specs.declared.packets.Pid.TheVariants as Pids
use Rattle.usb_base.specs.declared.packets.Reply.{Reply}
use Rattle.usb_base.specs.declared.packets.Reply.TheVariants as Replies
use Rattle.usb_base.specs.declared.packets.Split.{Split}
use Rattle.usb_base.specs.declared.packets.Split.TheVariants.{Plain, Start, Complete}
use Rattle.endpoint_script.specs.Device.{Device}
use Rattle.hub_keys.specs.declared.key.Key.{Key}
use Rattle.toggle_error.specs.declared.host.HostSide.{HostSide}
use Rattle.toggle_error.specs.Columns.{limit_of}
use Rattle.hub_keys.specs.Keys.{direction_of, key_of, is_same_direction}
use Rattle.bus_wire.specs.declared.seats.TokenKind.TheVariants as Tokens
use Rattle.bus_wire.specs.Fixed.{Fixed}
use Rattle.bus_wire.specs.Asking.{translator_answer}
use Rattle.bus_wire.specs.Below.{Below, below_reply}
use Rattle.bus_wire.specs.Bus.{Wired, begin_after}
use Rattle.qh_qtd.specs.declared.qtd.Qtd.{Qtd}
use Rattle.qh_qtd.specs.declared.queue_head.Qh.{Qh}
use Rattle.drv_table.specs.DriverContent.{DriverContent}
use Rattle.drv_table.specs.Words.{is_control}
use Rattle.hc_copy.specs.Planning.{pid_at, host_in, transaction_of}
use Rattle.hc_copy.specs.Transacting.{call_in}
use Rattle.hc_core.specs.Controller.{Content}
use Rattle.claims_base.specs.Controller.{Base}
use Rattle.law_structures.specs.lent_structures.Structures.{QueueHead, Element, StructureSets}
use Rattle.law_ring.specs.Hand.{Hand}
use Rattle.law_ring.specs.Effects.{settlement_as}
use Rattle.law_ring.specs.QueueParts.{IsQueuePart}
use Rattle.law_ring.specs.Told.{Endpoint, endpoint_of}
use Rattle.law_frames.specs.Met.{Kind, AQueue}
use Rattle.law_frames.specs.FrameHand.{FrameHand}
use Rattle.law_frames.specs.FrameStreams.{IsIsoAsk}
use Rattle.law_controller.specs.frame_control.Both.{RunsBoth, BothEffect}
use Rattle.law_controller.specs.frame_control.Joined.{joined, BothStreamEffect}
use Rattle.law_devices.specs.Senders.{sender_of_device}
use Rattle.law_devices.specs.scripted_takers.Takers.{taker_of_device}
use Rattle.law_devices.specs.scripted_requests.Controls.{transacts_by, begins_by}
use Rattle.law_descriptors.specs.Both.{both, parts_now}
use Rattle.law_descriptors.specs.PartLaws.{IsDescribing}
use Rattle.law_descriptors.specs.queue_events.Pipes.{AskedAreNear}
use Rattle.law_translated.specs.Lift.{Buffered, IsQuiet, Empty, Asked, Hidden, There, Told}
use Rattle.law_translated.specs.KeySlots.{KeySlot, way_of}
use Rattle.law_below_hubs.specs.Seated.{end_in}
use Rattle.law_below_hubs.specs.SeatedControls.{control_in}
use Rattle.law_below_hubs.specs.HubsKeys.{HubsHave}
use Rattle.law_below_hubs.specs.HostEvents.{hand_host, StartsFirst, told_key, AsksAlone, SparesKeyNow}
use Rattle.law_below_hubs.specs.HostIns.{SparesKey}
use Rattle.law_below_hubs.specs.HostOpens.{AsksNone}
use Rattle.law_below_hubs.specs.HostOuts.{queue_key, IsOfOther}
use Rattle.law_below_hubs.specs.Splits.{IsAtHub}

-- ---- an answer

abbrev pub is_toggled : Pid → Bool
is_toggled Pids.Data0 = true
is_toggled Pids.Data1 = true
is_toggled _ = false

-- an IN with data or a handshake, an OUT with a handshake (8.5.2); a SETUP isn't refused (8.4.6.4), but a hub gives up after three silences
abbrev pub suits : Pid → Reply → Bool
suits Pids.In (Replies.Bytes pid bytes) = is_toggled pid
suits Pids.In (Replies.Hand Pids.Nak) = true
suits Pids.In (Replies.Hand Pids.Stall) = true
suits Pids.Out (Replies.Hand Pids.Ack) = true
suits Pids.Out (Replies.Hand Pids.Nak) = true
suits Pids.Out (Replies.Hand Pids.Stall) = true
suits Pids.Setup (Replies.Hand Pids.Ack) = true
suits Pids.Setup (Replies.Hand Pids.Stall) = true
suits _ _ = false

abbrev pub IsAwaited : Pid → KeySlot → Type 0
IsAwaited pid Empty = ⊥
IsAwaited pid (Asked a) = a.ask.pid ≡ pid
IsAwaited pid (Hidden a r) = ⊥
IsAwaited pid (There a r) = suits pid r ≡ true
IsAwaited pid (Told a r) = ⊥

abbrev pub StandsAs : Option Pid → KeySlot → Type 0
StandsAs None s = IsQuiet s
StandsAs (Some pid) s = IsAwaited pid s

-- what is awaited is of this direction
pub data IsTokenOf (control : Bool) (pid : Pid) (dir : Dir) : Type 0 where
  of_in : pid ≡ Pids.In → dir ≡ Directions.In → IsTokenOf control pid dir
  of_out : pid ≡ Pids.Out → dir ≡ Directions.Out → IsTokenOf control pid dir
  of_setup : control ≡ true → pid ≡ Pids.Setup → dir ≡ Directions.Out → IsTokenOf control pid dir

abbrev pub IsOfWay : Bool → Option Pid → Dir → Type 0
IsOfWay control None dir = Unit {0}
IsOfWay control (Some pid) dir = IsTokenOf control pid dir

abbrev pub awaits : Bool → Pid → Option Pid
awaits waiting pid = if waiting then Some pid else None

abbrev pub awaits_in : Dir → Bool → Pid → Option Pid
awaits_in dir waiting pid = awaits (waiting && is_same_direction (direction_of pid) dir) pid

-- ---- the key

abbrev pub HasEnd : Bool → Dir → Fixed → List Device → ℕ → ℕ → Type 0
HasEnd false Directions.In fixed devices addr ep = is_some (end_in sender_of_device Tokens.In fixed devices addr ep) ≡ true
HasEnd false Directions.Out fixed devices addr ep = is_some (end_in taker_of_device Tokens.Out fixed devices addr ep) ≡ true
HasEnd true dir fixed devices addr ep = is_some (control_in fixed devices addr ep) ≡ true

pub record KeyStands (k : Key) (i place : ℕ) (w : Wired) (o : Option Pid) : Type 0 where
  pub slot : KeySlot
  pub has : HubsHave Buffered k i place w.bus.hubs slot
  pub stands : StandsAs o slot
  pub ends : HasEnd (is_control k.kind) k.dir w.fixed w.bus.devices k.addr k.ep

-- a device of a bulk or control endpoint answers so, or isn't heard; NYET, which isn't an answer at its speed, no translator takes for one
abbrev pub AnswersSuit : Type 0
AnswersSuit = (control : Bool) (dir : Dir) (pid : Pid) (w : Below) (ask : Ask) (out : List ℕ) → ask.pid ≡ pid
    → IsTokenOf control pid dir → (control ≡ true → ask.split ≡ Plain)
    → HasEnd control dir w.fixed w.floor.devices ask.addr ask.ep → below_reply w ask out ≢ Replies.Silent
    → below_reply w ask out ≢ Replies.Hand Pids.Nyet
    → suits pid (below_reply w ask out) ≡ true

-- ---- the host's transactions

-- a qTD of an IN has the PID code 1, that of an OUT 0, that of a SETUP another (EHCI 1.0, 3.5.3)
pub data Asking : Type 0 where
  Moves : ℕ → Asking
  Controls : Asking

abbrev pub its_kind : Asking → EpKind
its_kind (Moves code) = Kinds.Bulk
its_kind Controls = Kinds.Control

abbrev pub IsMoving : Asking → Type 0
IsMoving (Moves code) = (code ≡ 1) ⊎ (code ≡ 0)
IsMoving Controls = Unit {0}

abbrev pub IsCodeOf : Asking → ℕ → Type 0
IsCodeOf (Moves code) pid = pid ≡ code
IsCodeOf Controls pid = Unit {0}

abbrev pub faces : Asking → Dir → Type 0
faces (Moves code) dir = dir ≡ direction_of (pid_at code)
faces Controls dir = Unit {0}

-- the translator is asked for all bytes at once
pub data IsSplitTo (hub port : ℕ) : Split → Type 0 where
  starts : IsSplitTo hub port (Start hub port Parts.All)
  completes : IsSplitTo hub port (Complete hub port)

abbrev pub HearsSplits : ℕ → Key → ℕ → ℕ → ℕ → Wired → Wired → Type 0
HearsSplits code k hub port i wire after = (ask : Ask) (out : List ℕ) (reply : Reply) → IsSplitTo hub port ask.split → key_of ask ≡ k
    → ask.pid ≡ pid_at code → transacts_by wire ask out reply after → reply ≡ translator_answer (slice_get wire.bus.hubs i) ask

abbrev pub own_key : EpKind → ℕ → Qh → Key
own_key kind code q = queue_key kind (direction_of (pid_at code)) q

pub record IsHostOf (a : Asking) (q : Qh) : Type 0 where
  pub below : (q.eps == 2) ≡ false
  pub moving : IsMoving a
  pub code : IsCodeOf a q.token.pid

abbrev pub RestsIdle : HostSide → Type 0
RestsIdle host = host.active ≡ false → host.waiting ≡ false

-- a SETUP that goes out whole is done, or all of it is left
pub record OwnAwaited (kind : EpKind) (q : Qh) (out : List ℕ) (reply : Reply) (i place : ℕ) (v : Wired) : Type 0 where
  pub key : KeyStands (own_key kind q.token.pid q) i place v
      (awaits (settlement_as kind q out false reply).host.waiting (pid_at q.token.pid))
  pub errors : (settlement_as kind q out false reply).host.cerr ≡ q.token.cerr
  pub rests : RestsIdle (settlement_as kind q out false reply).host
  pub whole : pid_at q.token.pid ≡ Pids.Setup → limit_of (host_in q) ≡ q.token.total
      → (settlement_as kind q out false reply).host.active ≡ true → (settlement_as kind q out false reply).host.left ≡ q.token.total

abbrev pub OwnSplitsAreAwaited : Type 0
OwnSplitsAreAwaited = (a : Asking) (q : Qh) (i place : ℕ) (w v : Wired) (out : List ℕ) (reply : Reply) → IsHostOf a q
    → q.token.active ≡ true → IsAtHub w.bus.hubs q.hub q.port i place
    → transacts_by w (call_in (transaction_of (its_kind a) q) out false).ask (call_in (transaction_of (its_kind a) q) out false).out reply v
    → reply ≡ translator_answer (slice_get w.bus.hubs i) (call_in (transaction_of (its_kind a) q) out false).ask
    → KeyStands (own_key (its_kind a) q.token.pid q) i place w (awaits q.token.split_state (pid_at q.token.pid))
    → OwnAwaited (its_kind a) q out reply i place v

-- ---- all other transactions

abbrev pub OthersLeaveKey : Type 0
OthersLeaveKey = (k : Key) (i place : ℕ) (w : Wired) (ask : Ask) (out : List ℕ) (reply : Reply) (v : Wired) (o : Option Pid)
    → way_of k.kind ≡ Some Buffered → IsOfOther k ask → SparesKey k i place w ask v → transacts_by w ask out reply v
    → KeyStands k i place w o
    → KeyStands k i place v o

-- ---- where a microframe begins

abbrev pub BeginLeavesKey : Type 0
BeginLeavesKey = (k : Key) (i place frindex : ℕ) (w : Wired) (o : Option Pid) → IsOfWay (is_control k.kind) o k.dir
    → KeyStands k i place w o → KeyStands k i place (record w { bus = begin_after w.fixed frindex w.bus }) o

-- ---- the queue head

pub record IsAwaiting (a : Asking) (w : Wired) (i place : ℕ) (parts : StructureSets) (hand : Hand) (n : ℕ) (x : Endpoint) : Type 0 where
  pub queue : Qh
  pub head : parts n n ≡ Some (QueueHead queue)
  pub is : x ≡ endpoint_of queue
  pub below : (x.speed == 2) ≡ false
  pub own : x.dtc ≡ is_control (its_kind a)
  pub ways : (b : ℕ) (t : Qtd) → parts n b ≡ Some (Element t) → t.token.active ≡ true → IsCodeOf a t.token.pid
  pub first : StartsFirst (parts n)
  pub rests : RestsIdle (hand_host hand n queue)
  pub waits : (hand_host hand n queue).waiting ≡ true → IsCodeOf a queue.token.pid
  pub hub : IsAtHub w.bus.hubs x.hub x.port i place
  pub keys : (dir : Dir) → faces a dir → KeyStands (told_key (its_kind a) dir x) i place w
      (awaits_in dir (hand_host hand n queue).waiting (pid_at queue.token.pid))

abbrev pub HearsAll : Asking → Endpoint → ℕ → Wired → Wired → Type 0
HearsAll a x i wire after = (code : ℕ) → IsCodeOf a code
    → HearsSplits code (told_key (its_kind a) (direction_of (pid_at code)) x) x.hub x.port i wire after

abbrev pub EventKeepsAwaiting : Type 0
EventKeepsAwaiting = (a : Asking) (near : ℕ → Bool) (n : ℕ) (x : Endpoint) (i place : ℕ) (base : Base) (member : ℕ → Bool)
    (met : ℕ → Option Kind) (d : DriverContent) (descs parts : StructureSets) (hand : Hand) (frame : FrameHand) (c : Content)
    (wire after : Wired) (now : StructureSets) (later : Hand) (frame_later : FrameHand) → IsDescribing d descs parts
    → RunsBoth base member met (both descs parts) hand frame c
    → BothEffect begins_by transacts_by (both descs parts) c.control hand frame wire after now later frame_later
    → AskedAreNear near parts (joined hand frame) → ((dir : Dir) → faces a dir → AsksAlone dir near parts n x)
    → ((dir : Dir) → faces a dir → (ask : Ask) → IsIsoAsk (both descs parts) ask → IsOfOther (told_key (its_kind a) dir x) ask)
    → (met n ≡ Some AQueue → ⊥) → IsQueuePart n (parts n) → IsQueuePart n (parts_now descs parts now n)
    → IsAtHub after.bus.hubs x.hub x.port i place
    → ((dir : Dir) → faces a dir → SparesKeyNow (told_key (its_kind a) dir x) i place wire after)
    → HearsAll a x i wire after → IsMoving a
    → BothStreamEffect begins_by (IsIsoAsk (both descs parts)) transacts_by parts (joined hand frame) wire after
    (parts_now descs parts now) (joined later frame_later)
    → IsAwaiting a wire i place parts (joined hand frame) n x
    → IsAwaiting a after i place (parts_now descs parts now) (joined later frame_later) n x

-- ---- where none asks it

abbrev pub UnaskedLeavesKey : Type 0
UnaskedLeavesKey = (kind : EpKind) (dir : Dir) (near : ℕ → Bool) (x : Endpoint) (i place : ℕ) (descs parts : StructureSets) (hand : Hand)
    (wire after : Wired) (now : StructureSets) (later : Hand) (o : Option Pid) → way_of kind ≡ Some Buffered
    → AskedAreNear near parts hand → AsksNone dir near parts x
    → ((ask : Ask) → IsIsoAsk (both descs parts) ask → IsOfOther (told_key kind dir x) ask)
    → SparesKeyNow (told_key kind dir x) i place wire after → IsOfWay (is_control kind) o dir
    → BothStreamEffect begins_by (IsIsoAsk (both descs parts)) transacts_by parts hand wire after now later
    → KeyStands (told_key kind dir x) i place wire o → KeyStands (told_key kind dir x) i place after o
