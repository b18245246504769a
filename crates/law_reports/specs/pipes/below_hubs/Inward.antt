-- A bulk or interrupt IN endpoint below a hub in a world with endpoints of every kind (EHCI 1.0, 4.6 to 4.12; USB 2.0, 8.6, 11.14 and
-- 11.17): host, hub and device stand as they must, before it is opened, and while its queue head is met; and what moved of it begins what
-- its device sends, also once it left.
--     Inlet                 the endpoint, the hub and the translator that it is behind, and the packets of its device
--     is_inlet v addr ep    this address and number are those of the endpoint
--     IsInletBy v d way, AreInlets v d
--                           an endpoint of a driver that has its name is the one so described
--     Unmoved v wire        nothing of it is on its way, whether or not the host goes on
--     Begins v bytes        these bytes begin the packets of its device
--     IsSpared v wire       its hub hasn't heard last that it clears a buffer or resets a translator
--     IsInward fixed v timely s m w    all this of the world w; `timely` tells by the queue head whether the host of an interrupt endpoint
--                           is in time: no frame began while it waited
--     HasInward fixed x o v timely puts w     .. for some standing, lines and queue heads, beside the OUT endpoints below hubs
--     may_be_late hand n p  the host of the queue head at n, which isn't at high speed, waits, and hasn't halted
--     renewed s timely      in time is each host that doesn't wait, or has halted
--     is_frame_begun z, still_timely z timely     an event of the controller begins a frame; who is in time still
use Rattle.std.specs.Prelude.{◌≡◌, ℕ, ◌*◌, ◌%◌, ◌==◌, ◌&&◌, ◌||◌, not, Bool, true, false, List, [], slice_get, Option, Some}
use Rattle.std.specs.List.{concat}
use Rattle.usb_base.specs.declared.endpoints.EpDesc.{EpDesc}
use Rattle.usb_base.specs.declared.packets.Ask.{Ask}
use Rattle.usb_base.specs.declared.packets.Dir.TheVariants as Directions
use Rattle.usb_base.specs.declared.packets.Way.{Way}
use Rattle.usb_base.specs.declared.packets.Way.TheVariants as ways
use Rattle.hub_class.specs.HubContent.{HubContent}
use Rattle.bus_wire.specs.Bus.{Wired, Fixed}
use Rattle.claims_base.specs.Prefix.{IsPrefix}
use Rattle.claims_world.specs.BelowStreams.{heard_clear, is_in_below}
use Rattle.drv_table.specs.declared.content.Endpoint.{Endpoint}
use Rattle.drv_table.specs.DriverContent.{DriverContent}
use Rattle.toggle_error.specs.declared.host.HostSide.{HostSide}
use Rattle.law_structures.specs.lent_structures.Structures.{QueueHead, Structure, StructureSets}
use Rattle.law_ring.specs.Hand.{Hand}
use Rattle.law_controller.specs.frame_control.Joined.{BothStreamEffect, begun, moved}
use Rattle.law_devices.specs.scripted_requests.Controls.{transacts_by, begins_by}
use Rattle.law_driver.specs.queued_drivers.Queued.{queued_endpoint, queued}
use Rattle.law_driver_ring.specs.fed_queues.Places.{IsMet}
use Rattle.law_below_hubs.specs.HostEvents.{hand_host, told_key, IsInBehind}
use Rattle.law_below_hubs.specs.HostIns.{InSide}
use Rattle.law_below_hubs.specs.Splits.{IsAtHub}
use Rattle.law_world.specs.steps.Streaming.{wired}
use Rattle.law_world.specs.memory.Mixed.{Standing}
use Rattle.bus_world.specs.World.{World}
use Rattle.law_reports.specs.lines.Lined.{in_hand, Lines}
use Rattle.law_reports.specs.pipes.Declared.{Sides}
use Rattle.law_reports.specs.pipes.Piped.{Heads, asked_as, AreFresh, AreLeft, IsPiped}
use Rattle.law_reports.specs.pipes.puts.Paid.{Pays}
use Rattle.law_reports.specs.pipes.below_hubs.Behind.{Spots, IsBehind}

-- ---- the endpoint

pub record Inlet : Type 0 where
  pub desc : EpDesc
  pub hub : ℕ  -- its place among the hubs
  pub place : ℕ  -- that of its translator
  pub packets : List (List ℕ)

abbrev pub is_inlet : Inlet → ℕ → ℕ → Bool
is_inlet v addr ep = v.desc.name.addr == addr && v.desc.name.num == ep

-- no control endpoint of its device has its number
abbrev pub IsInletBy : Inlet → EpDesc → Way → Type 0
IsInletBy v d ways.In = is_inlet v d.name.addr d.name.num ≡ true → d ≡ v.desc
IsInletBy v d ways.Out = Unit {0}
IsInletBy v d ways.Ctl = is_inlet v d.name.addr d.name.num ≡ false

abbrev pub AreInlets : Inlet → DriverContent → Type 0
AreInlets v d = (e : ℕ) (y : Endpoint) → slice_get d.endpoints e ≡ Some y → IsInletBy v y.desc y.desc.name.way

-- ---- what moved

abbrev pub Unmoved : Inlet → Wired → Type 0
Unmoved v wire = (going timely : Bool)
    → InSide v.packets (told_key v.desc.kind Directions.In (asked_as v.desc)) v.hub v.place wire false false going timely []

abbrev pub Begins : Inlet → List ℕ → Type 0
Begins v bytes = IsPrefix bytes (concat v.packets)

abbrev pub IsSpared : Inlet → Wired → Type 0
IsSpared v wire = (h : HubContent) → slice_get wire.bus.hubs v.hub ≡ Some h → heard_clear h ≡ false

-- ---- a world

pub record IsInward (fixed : Fixed) (v : Inlet) (timely : ℕ → Bool) (s : Standing) (m : Lines) (w : World) : Type 0 where
  pub claims : is_in_below v.desc ≡ true
  pub inlets : AreInlets v w.driver
  pub hub : IsAtHub (wired fixed w).bus.hubs (asked_as v.desc).hub (asked_as v.desc).port v.hub v.place
  pub met : (e : ℕ) (y : Endpoint) → slice_get w.driver.endpoints e ≡ Some y → y.desc.name.way ≡ ways.In
      → is_inlet v y.desc.name.addr y.desc.name.num ≡ true → IsMet (queued w.driver) e (queued_endpoint y)
      → IsInBehind v.desc.kind v.packets (wired fixed w) v.hub v.place (timely (32 * y.queue)) (concat (m.acc (32 * y.queue))) s.parts
      (in_hand s) (32 * y.queue) (asked_as y.desc)
  pub fresh : AreFresh w.driver ways.In (is_inlet v) (λ addr ep. Unmoved v (wired fixed w))
  pub left : AreLeft w.driver m.acc ways.In (is_inlet v) (λ addr ep. Begins v)

pub record HasInward (fixed : Fixed) (x : Sides) (o : Spots) (v : Inlet) (timely : ℕ → Bool) (puts : ℕ → List ℕ) (w : World) : Type 0 where
  pub standing : Standing
  pub lines : Lines
  pub heads : Heads
  pub piped : IsPiped fixed x standing lines heads w
  pub pays : Pays fixed x standing lines puts w
  pub behind : IsBehind fixed o standing lines puts w
  pub inward : IsInward fixed v timely standing lines w

-- ---- who is in time

abbrev pub is_late_host : HostSide → Bool
is_late_host host = host.active && (host.waiting && not host.halted)

abbrev pub may_be_late : Hand → ℕ → Option Structure → Bool
may_be_late hand n (Some (QueueHead q)) = not (q.eps == 2) && is_late_host (hand_host hand n q)
may_be_late hand n _ = false

abbrev pub renewed : Standing → (ℕ → Bool) → ℕ → Bool
renewed s timely n = timely n || not (may_be_late (in_hand s) n (s.parts n n))

abbrev pub host_waits : Hand → ℕ → Option Structure → Bool
host_waits hand n (Some (QueueHead q)) = (hand_host hand n q).waiting
host_waits hand n _ = false

-- by the event of the controller: a frame begins
abbrev pub is_frame_begun : {Beside : Ask → Type 0} {parts : StructureSets} {hand : Hand} {wire after : Wired} {now : StructureSets}
    {later : Hand} → BothStreamEffect begins_by Beside transacts_by parts hand wire after now later → Bool
is_frame_begun (begun index allowed asked told) = index % 8 == 0
is_frame_begun (moved z) = false

abbrev pub still_timely : {Beside : Ask → Type 0} {parts : StructureSets} {hand : Hand} {wire after : Wired} {now : StructureSets}
    {later : Hand} → BothStreamEffect begins_by Beside transacts_by parts hand wire after now later → (ℕ → Bool) → ℕ → Bool
still_timely {parts = parts} {hand = hand} z timely n = timely n && not (is_frame_begun z && host_waits hand n (parts n n))
