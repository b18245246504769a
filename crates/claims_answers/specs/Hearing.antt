-- Who hears a packet, on the high-speed bus and below a translator: what the lines of a script say of lost packets, the ports of the hubs,
-- and nothing else (USB 2.0, 8.4, 8.5, 8.6, 11.14 and 11.17).
--     is_lost fates name below n      a line says that packet n of the endpoint on this bus is lost or damaged
--     sends ask                       how many packets the asker sends before the answer
--     Party                           whoever is asked: its answer, and what it is left as
--     IsExchange ..                   what of its packets gets through tells what the asker hears, and what is left
--     IsAsked seats ask place seat    the ask is for this endpoint, the first one that takes its token
--     IsHeard fixed b ask out reply after           what becomes of an ask on the high-speed bus
--     IsHeardBelow fixed h floor ask out reply after   .. of one on the bus below hub h
use Rattle.std.specs.Prelude.{◌≡◌, ℕ, ◌+◌, ◌-◌, ◌<◌, ◌⊎◌, ◌==◌, Bool, true, false, not, ◌&&◌, ◌||◌, nat_lt, List, slice_get, slice_set, position, Option, Some, None, if◌then◌else◌}
use Rattle.std.specs.List.{list_any}
use Rattle.usb_base.specs.Acknowledgement.{acknowledges}
use Rattle.usb_base.specs.declared.endpoints.EpName.{EpName}
use Rattle.usb_base.specs.declared.packets.Ask.{Ask}
use Rattle.usb_base.specs.declared.packets.Fate.{Fate}
use Rattle.usb_base.specs.declared.packets.Fate.TheVariants as fates
use Rattle.usb_base.specs.declared.packets.Pid.{Pid}
use Rattle.usb_base.specs.declared.packets.Pid.TheVariants as pids
use Rattle.usb_base.specs.declared.packets.Reply.{Reply}
use Rattle.usb_base.specs.declared.packets.Reply.TheVariants as replies
use Rattle.usb_base.specs.declared.packets.Split.{Split}
use Rattle.usb_base.specs.declared.packets.Split.TheVariants.{Plain, Start, Complete}
use Rattle.usb_base.specs.declared.packets.Way.{Way}
use Rattle.usb_base.specs.declared.packets.Way.TheVariants as ways
use Rattle.script_types.specs.declared.scripts.FateText.{FateText}
use Rattle.endpoint_script.specs.Device.{Device, answer_of, answered, acked_by}
use Rattle.hub_ports.specs.Ports.{is_enabled}
use Rattle.hub_class.specs.HubContent.{HubContent}
use Rattle.hub_class.specs.EndpointZero.{hub_reply, hub_answered, hub_acked}
use Rattle.hub_class.specs.Translating.{transact_reply, transacted}
use Rattle.bus_wire.specs.declared.seats.Owner.{Owner}
use Rattle.bus_wire.specs.declared.seats.Owner.TheVariants as owners
use Rattle.bus_wire.specs.declared.seats.Seat.{Seat}
use Rattle.bus_wire.specs.Below.{Floor}
use Rattle.bus_wire.specs.Bus.{Bus}
use Rattle.bus_wire.specs.Fixed.{Fixed}
use Rattle.bus_wire.specs.WhoHeard.{later}

-- ---- packets that don't get through

abbrev pub is_way : Way → Way → Bool
is_way ways.In ways.In = true
is_way ways.Out ways.Out = true
is_way ways.Ctl ways.Ctl = true
is_way _ _ = false

abbrev pub gets_through : Fate → Bool
gets_through fates.Good = true
gets_through fates.Lost = false
gets_through fates.Damaged = false

-- `below` is the bus below the translator of the endpoint's hub, else it is the high-speed bus
abbrev pub says_so : EpName → Bool → ℕ → FateText → Bool
says_so name below n f =
    (f.name.addr == name.addr && (f.name.num == name.num && is_way f.name.way name.way))
    && ((if below then f.down else not f.down) && (f.k == n && not (gets_through f.fate)))

abbrev pub is_lost : List FateText → EpName → Bool → ℕ → Bool
is_lost lines name below n = list_any (says_so name below n) lines

-- ---- one transaction

-- the token, with the SPLIT before it, and the data right behind that of an OUT or a SETUP; a complete-split has none (8.4.2 and 8.5)
abbrev pub sends_data : Pid → Bool
sends_data pids.Out = true
sends_data pids.Setup = true
sends_data _ = false

abbrev pub sends : Split → Pid → ℕ
sends (Complete hub port) pid = 1
sends Plain pid = if sends_data pid then 2 else 1
sends (Start hub port part) pid = if sends_data pid then 2 else 1

-- what is as it was before, as an answer leaves it, and as the acknowledgement of that answer leaves it
pub record Party (X : Type 0) : Type 0 where
  pub answer : Reply
  pub before : X
  pub answered : X
  pub acked : X

abbrev pub is_packet : Reply → Bool
is_packet replies.Silent = false
is_packet (replies.Bytes pid bytes) = true
is_packet (replies.Hand pid) = true

-- what of the packets doesn't get through: what the asker sends first, the answer, the acknowledgement
pub record Missed : Type 0 where
  pub sent : Bool
  pub answer : Bool
  pub acknowledgement : Bool

-- how many packets were on the bus: each answers one that got through
abbrev pub packets : Missed → Ask → Reply → ℕ
packets m ask answer =
    sends ask.split ask.pid
    + (if not m.sent && is_packet answer then (if not m.answer && acknowledges ask answer then 2 else 1) else 0)

pub record IsExchange {X : Type 0} (m : Missed) (ask : Ask) (p : Party X) (heard : Reply) (left : X) : Type 0 where
  pub unsent : m.sent ≡ true → (heard ≡ replies.Silent) × (left ≡ p.before)
  pub unheard : m.sent ≡ false → m.answer ≡ true → (heard ≡ replies.Silent) × (left ≡ p.answered)
  pub got : m.sent ≡ false → m.answer ≡ false → heard ≡ p.answer
  pub acked : m.sent ≡ false → m.answer ≡ false → acknowledges ask p.answer ≡ true → m.acknowledgement ≡ false → left ≡ p.acked
  pub unacked :
      m.sent ≡ false → m.answer ≡ false → (acknowledges ask p.answer ≡ false) ⊎ (m.acknowledgement ≡ true) → left ≡ p.answered

-- by what lines say of the packets from number n on
abbrev pub missed : List FateText → EpName → Bool → ℕ → Ask → Missed
missed lines name below n ask = record {
  sent = is_lost lines name below (later n 0) || is_lost lines name below (later n (sends ask.split ask.pid - 1));
  answer = is_lost lines name below (later n (sends ask.split ask.pid));
  acknowledgement = is_lost lines name below (later n (sends ask.split ask.pid + 1));
}

-- ---- which endpoint

-- an IN, OUT or control endpoint, by the token (8.4.1); a PING asks for room (8.5.1)
abbrev pub takes_token : Way → Pid → Bool
takes_token ways.In pids.In = true
takes_token ways.Out pids.Out = true
takes_token ways.Out pids.Ping = true
takes_token ways.Ctl pids.In = true
takes_token ways.Ctl pids.Out = true
takes_token ways.Ctl pids.Ping = true
takes_token ways.Ctl pids.Setup = true
takes_token _ _ = false

abbrev pub is_for : Ask → EpName → Bool
is_for ask name = name.addr == ask.addr && (name.num == ask.ep && takes_token name.way ask.pid)

-- the first endpoint of this address and number that takes the token
pub record IsAsked (seats : List Seat) (ask : Ask) (place : ℕ) (seat : Seat) : Type 0 where
  pub there : slice_get seats place ≡ Some seat
  pub asked : is_for ask seat.name ≡ true
  pub first : (before : ℕ) (other : Seat) → before < place → slice_get seats before ≡ Some other → is_for ask other.name ≡ false

abbrev pub NoneIsAsked : List Seat → Ask → Type 0
NoneIsAsked seats ask = (place : ℕ) (seat : Seat) → slice_get seats place ≡ Some seat → is_for ask seat.name ≡ false

-- ---- on the high-speed bus

abbrev pub nobody : {X : Type 0} → X → Party X
nobody x = record { answer = replies.Silent; before = x; answered = x; acked = x }

abbrev pub device_party : Bus → ℕ → Ask → List ℕ → Option Device → Party Bus
device_party b place ask out None = nobody b
device_party b place ask out (Some d) = record {
  answer = answer_of d ask out;
  before = b;
  answered = record b { devices = slice_set b.devices place (answered d ask out) };
  acked = record b { devices = slice_set b.devices place (acked_by (answered d ask out) ask) };
}

abbrev pub hub_party : Bus → ℕ → Ask → List ℕ → Option HubContent → Party Bus
hub_party b place ask out None = nobody b
hub_party b place ask out (Some h) = record {
  answer = hub_reply ask out h;
  before = b;
  answered = record b { hubs = slice_set b.hubs place (hub_answered ask out h) };
  acked = record b { hubs = slice_set b.hubs place (hub_acked ask (hub_answered ask out h)) };
}

-- what a translator answers has no acknowledgement (8.4.2)
abbrev pub translator_party : Bus → ℕ → Ask → List ℕ → ℕ → Option HubContent → Party Bus
translator_party b place ask out stuff None = nobody b
translator_party b place ask out stuff (Some h) = record {
  answer = transact_reply ask h;
  before = b;
  answered = record b { hubs = slice_set b.hubs place (transacted ask out stuff h) };
  acked = record b { hubs = slice_set b.hubs place (transacted ask out stuff h) };
}

-- an endpoint of a hub or of a high-speed device; a device below a hub isn't on this bus
abbrev pub plain_party : Bus → Ask → List ℕ → Owner → Party Bus
plain_party b ask out (owners.Hub place) = hub_party b place ask out (slice_get b.hubs place)
plain_party b ask out (owners.High place) = device_party b place ask out (slice_get b.devices place)
plain_party b ask out (owners.Below device hub port stuff) = nobody b

abbrev pub stuffed : Owner → ℕ
stuffed (owners.Below device hub port stuff) = stuff
stuffed _ = 0

-- the translator of the hub that a split ask names (11.14)
abbrev pub named_translator : Bus → Ask → List ℕ → Owner → Option ℕ → Party Bus
named_translator b ask out owner None = nobody b
named_translator b ask out owner (Some place) = translator_party b place ask out (stuffed owner) (slice_get b.hubs place)

abbrev pub split_party : Bus → Ask → List ℕ → Owner → ℕ → Party Bus
split_party b ask out owner hub = named_translator b ask out owner (position (λ h. h.address == hub) b.hubs)

abbrev pub party : Bus → Ask → List ℕ → Owner → Split → Party Bus
party b ask out owner Plain = plain_party b ask out owner
party b ask out owner (Start hub port part) = split_party b ask out owner hub
party b ask out owner (Complete hub port) = split_party b ask out owner hub

-- packet `number` of the endpoint is the next one on this bus
pub record IsTransaction (fixed : Fixed) (b : Bus) (ask : Ask) (out : List ℕ) (reply : Reply) (after : Bus) : Type 0 where
  pub place : ℕ
  pub seat : Seat
  pub number : ℕ
  pub left : Bus
  pub asked : IsAsked fixed.seats ask place seat
  pub next : slice_get b.high place ≡ Some number
  pub exchange : IsExchange (missed fixed.fates seat.name false number ask) ask (party b ask out seat.owner ask.split) reply left
  pub counted : after ≡ record left {
    high = slice_set b.high place
        (later number (packets (missed fixed.fates seat.name false number ask) ask (party b ask out seat.owner ask.split).answer));
  }

-- where no endpoint is asked nobody answers
abbrev pub IsHeard : Fixed → Bus → Ask → List ℕ → Reply → Bus → Type 0
IsHeard fixed b ask out reply after =
    (NoneIsAsked fixed.seats ask × ((reply ≡ replies.Silent) × (after ≡ b))) ⊎ IsTransaction fixed b ask out reply after

-- ---- on the bus below a hub

-- a port is enabled; a hub has fifteen ports at most (11.23.1)
abbrev pub is_behind : HubContent → ℕ → Bool
is_behind h port = nat_lt port 16 && is_enabled port h.ports

abbrev pub floor_device : Floor → ℕ → Ask → List ℕ → Option Device → Party Floor
floor_device floor place ask out None = nobody floor
floor_device floor place ask out (Some d) = record {
  answer = answer_of d ask out;
  before = floor;
  answered = record floor { devices = slice_set floor.devices place (answered d ask out) };
  acked = record floor { devices = slice_set floor.devices place (acked_by (answered d ask out) ask) };
}

-- a device behind an enabled port of this hub
abbrev pub floor_party : HubContent → Floor → Ask → List ℕ → Owner → Party Floor
floor_party h floor ask out (owners.Below device hub port stuff) =
    if hub == h.address && is_behind h port then floor_device floor device ask out (slice_get floor.devices device) else nobody floor
floor_party h floor ask out _ = nobody floor

pub record IsTransactionBelow (fixed : Fixed) (h : HubContent) (floor : Floor) (ask : Ask) (out : List ℕ) (reply : Reply) (after : Floor) :
    Type 0 where
  pub place : ℕ
  pub seat : Seat
  pub number : ℕ
  pub left : Floor
  pub asked : IsAsked fixed.seats ask place seat
  pub next : slice_get floor.numbers place ≡ Some number
  pub exchange : IsExchange (missed fixed.fates seat.name true number ask) ask (floor_party h floor ask out seat.owner) reply left
  pub counted : after ≡ record left {
    numbers = slice_set floor.numbers place
        (later number (packets (missed fixed.fates seat.name true number ask) ask (floor_party h floor ask out seat.owner).answer));
  }

abbrev pub IsHeardBelow : Fixed → HubContent → Floor → Ask → List ℕ → Reply → Floor → Type 0
IsHeardBelow fixed h floor ask out reply after =
    (NoneIsAsked fixed.seats ask × ((reply ≡ replies.Silent) × (after ≡ floor))) ⊎ IsTransactionBelow fixed h floor ask out reply after
