-- How an endpoint with a stream, below a hub, begins, and how it stands where none asks it: before it is opened, and after it has left
-- (EHCI 1.0, 3.6, 4.8 and 4.12; USB 2.0, 8.6, 11.17 and 11.18).
--     OutOpens, InOpens          so hub and device stand where no hub has anything of the key, and the device moved nothing
--     IsFirst host               DATA0, and Do-Start
--     HeadOpensOut, HeadOpensIn  then so does a new queue head
--     AsksNone dir near parts x  no queue head that is met asks x in this direction
--     UnaskedLeavesOut, UnaskedLeavesIn     then each event leaves hub and device so, for IN where no request takes the key from a hub
use Rattle.std.specs.Prelude.{◌≡◌, ℕ, ◌==◌, Bool, true, false, List, [], Option, Some, None}
use Rattle.usb_base.specs.declared.packets.Ask.{Ask}
use Rattle.usb_base.specs.declared.packets.Dir.{Dir}
use Rattle.usb_base.specs.declared.packets.Dir.TheVariants as Directions
use Rattle.usb_base.specs.declared.packets.EpKind.{EpKind}
use Rattle.hub_keys.specs.declared.key.Key.{Key}
use Rattle.bus_wire.specs.Bus.{Wired}
use Rattle.claims_report.specs.Streams.{has_stream}
use Rattle.qh_qtd.specs.declared.queue_head.Qh.{Qh}
use Rattle.toggle_error.specs.declared.host.HostSide.{HostSide}
use Rattle.law_structures.specs.lent_structures.Structures.{QueueHead, StructureSets}
use Rattle.law_ring.specs.Hand.{Hand}
use Rattle.law_ring.specs.Told.{Endpoint, endpoint_of, HasEndpoint}
use Rattle.law_ring.specs.OutPipes.{IsOut}
use Rattle.law_ring.specs.Pipes.{IsIn}
use Rattle.law_frames.specs.FrameStreams.{IsIsoAsk}
use Rattle.law_controller.specs.frame_control.Joined.{BothStreamEffect}
use Rattle.law_devices.specs.scripted_requests.Controls.{transacts_by, begins_by}
use Rattle.law_descriptors.specs.Both.{both}
use Rattle.law_descriptors.specs.queue_events.Pipes.{AskedAreNear}
use Rattle.law_translated.specs.InPipes.{in_opening}
use Rattle.law_translated.specs.Lift.{Empty}
use Rattle.law_translated.specs.OutPipes.{out_opening}
use Rattle.law_below_hubs.specs.HostEvents.{hand_host, StartsFirst, told_key, IsOutBehind, IsInBehind, AsksElse, SparesKeyNow}
use Rattle.law_below_hubs.specs.HostIns.{InSide}
use Rattle.law_below_hubs.specs.HostOuts.{its_way, OutSide, IsOfOther}
use Rattle.law_below_hubs.specs.HubsKeys.{HubsHave, IsOfKind, AreRightHubs}
use Rattle.law_below_hubs.specs.InWork.{sender_of_line}
use Rattle.law_below_hubs.specs.OutWork.{IsPut, taker_of_line}
use Rattle.law_below_hubs.specs.Seated.{sender_at, taker_at}
use Rattle.law_below_hubs.specs.Splits.{IsAtHub}

-- ---- nothing was asked

abbrev pub OutOpens : Type 0
OutOpens = (k : Key) (i place : ℕ) (w : Wired) → HubsHave (its_way k.kind) k i place w.bus.hubs Empty → AreRightHubs (IsPut k) w.bus.hubs
    → taker_at w k.addr k.ep ≡ Some (taker_of_line out_opening) → OutSide k i place w false false [] None

abbrev pub InOpens : Type 0
InOpens = (packets : List (List ℕ)) (k : Key) (i place : ℕ) (w : Wired) (going timely : Bool)
    → HubsHave (its_way k.kind) k i place w.bus.hubs Empty
    → AreRightHubs (IsOfKind k) w.bus.hubs → sender_at w k.addr k.ep ≡ Some (sender_of_line (in_opening packets))
    → InSide packets k i place w false false going timely []

-- ---- a new queue head

pub record IsFirst (host : HostSide) : Type 0 where
  pub toggle : host.toggle ≡ false
  pub waiting : host.waiting ≡ false

abbrev pub HeadOpensOut : Type 0
HeadOpensOut = (kind : EpKind) (w : Wired) (i place : ℕ) (parts : StructureSets) (hand : Hand) (n : ℕ) (x : Endpoint) (q : Qh)
    → parts n n ≡ Some (QueueHead q) → x ≡ endpoint_of q → (x.speed == 2) ≡ false → x.dtc ≡ false → IsOut (parts n) → StartsFirst (parts n)
    → IsFirst (hand_host hand n q) → IsAtHub w.bus.hubs x.hub x.port i place
    → OutSide (told_key kind Directions.Out x) i place w false false [] None
    → (b : IsOutBehind kind w i place [] parts hand n x) × (b.host.next ≡ None)

abbrev pub HeadOpensIn : Type 0
HeadOpensIn = (kind : EpKind) (packets : List (List ℕ)) (w : Wired) (i place : ℕ) (timely : Bool) (parts : StructureSets) (hand : Hand)
    (n : ℕ) (x : Endpoint) (q : Qh)
    → parts n n ≡ Some (QueueHead q) → x ≡ endpoint_of q → (x.speed == 2) ≡ false → x.dtc ≡ false → IsIn (parts n) → StartsFirst (parts n)
    → IsFirst (hand_host hand n q) → IsAtHub w.bus.hubs x.hub x.port i place
    → ((going : Bool) → InSide packets (told_key kind Directions.In x) i place w false false going timely [])
    → IsInBehind kind packets w i place timely [] parts hand n x

-- ---- where none asks it

abbrev pub AsksNone : Dir → (ℕ → Bool) → StructureSets → Endpoint → Type 0
AsksNone dir near parts x = (m : ℕ) → near m ≡ true → (y : Endpoint) × HasEndpoint parts m y × AsksElse dir (parts m) x y

abbrev pub UnaskedLeavesOut : Type 0
UnaskedLeavesOut = (kind : EpKind) (near : ℕ → Bool) (x : Endpoint) (i place : ℕ) (descs parts : StructureSets) (hand : Hand)
    (wire after : Wired) (now : StructureSets) (later : Hand) (h waiting : Bool) (known : List ℕ) (next : Option (List ℕ))
    → AskedAreNear near parts hand → AsksNone Directions.Out near parts x
    → ((ask : Ask) → IsIsoAsk (both descs parts) ask → IsOfOther (told_key kind Directions.Out x) ask) → has_stream kind ≡ true
    → BothStreamEffect begins_by (IsIsoAsk (both descs parts)) transacts_by parts hand wire after now later
    → OutSide (told_key kind Directions.Out x) i place wire h waiting known next
    → OutSide (told_key kind Directions.Out x) i place after h waiting known next

abbrev pub UnaskedLeavesIn : Type 0
UnaskedLeavesIn = (kind : EpKind) (packets : List (List ℕ)) (near : ℕ → Bool) (x : Endpoint) (i place : ℕ) (descs parts : StructureSets)
    (hand : Hand) (wire after : Wired) (now : StructureSets) (later : Hand) (h going timely : Bool) (known : List ℕ)
    → AskedAreNear near parts hand → AsksNone Directions.In near parts x
    → ((ask : Ask) → IsIsoAsk (both descs parts) ask → IsOfOther (told_key kind Directions.In x) ask) → has_stream kind ≡ true
    → SparesKeyNow (told_key kind Directions.In x) i place wire after
    → BothStreamEffect begins_by (IsIsoAsk (both descs parts)) transacts_by parts hand wire after now later
    → InSide packets (told_key kind Directions.In x) i place wire h false going timely known
    → InSide packets (told_key kind Directions.In x) i place after h false going timely known
