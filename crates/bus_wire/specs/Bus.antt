-- The bus of a script: what it has, what a microframe's beginning and a transaction leave, and what the host hears (USB 2.0, 8.5, 8.6 and 11).
--     Fixed                      what never changes in a run (specs/Fixed.antt): the endpoints, the fates of packets, the holds
--     Bus                        what changes: devices, hubs, the numbers of the next packets on both buses, the number of the microframe
--     begin_after, is_allowed    what the beginning of a microframe leaves, and whether the bus may be used in it
--     reply_of, transact_after   what the host hears in a transaction, and what that leaves
use Rattle.std.specs.Prelude.{ℕ, ◌%◌, ◌==◌, not, Bool, true, false, List, map, position, length, replicate, Option, Some, None, slice_get, slice_set, if◌then◌else◌}
use Rattle.std.specs.Option.{option_and_then, option_map, option_map_or}
use Rattle.usb_base.specs.declared.packets.Ask.{Ask}
use Rattle.usb_base.specs.declared.packets.Reply.{Reply}
use Rattle.usb_base.specs.declared.packets.Reply.TheVariants.{Silent}
use Rattle.usb_base.specs.declared.packets.Speed.{Speed}
use Rattle.usb_base.specs.declared.packets.Speed.TheVariants as Speeds
use Rattle.usb_base.specs.declared.packets.Split.{Split}
use Rattle.usb_base.specs.declared.packets.Split.TheVariants.{Plain, Start, Complete}
use Rattle.script_types.specs.declared.scripts.Script.{Script}
use Rattle.endpoint_script.specs.Device.{Device, opening, begun}
use Rattle.hub_class.specs.HubContent.{HubContent}
use Rattle.hub_class.specs.HubContent as Hubs
use Rattle.bus_wire.specs.declared.asked.Answerer.{Answerer}
use Rattle.bus_wire.specs.declared.asked.Answerer.TheVariants as Answerers
use Rattle.bus_wire.specs.declared.asked.Asked.{Asked}
use Rattle.bus_wire.specs.declared.seats.Owner.{Owner}
use Rattle.bus_wire.specs.declared.seats.Owner.TheVariants as Owners
use Rattle.bus_wire.specs.declared.who_heard.WhoHeard.{WhoHeard}
pub use Rattle.bus_wire.specs.Fixed.{Fixed, fixed_of, is_held}
use Rattle.bus_wire.specs.Seats.{token_kind, place_for, seats_of}
use Rattle.bus_wire.specs.WhoHeard.{asker_hears, packets_before, later}
use Rattle.bus_wire.specs.Asking.{losses_of, row_for, packet_after, device_after, hub_after, translator_after, device_answer, hub_answer, translator_answer, changed_at}
use Rattle.bus_wire.specs.Below.{Floor, hubs_worked, floor_worked}

pub record Bus : Type 0 where
  pub devices : List Device
  pub hubs : List HubContent
  pub high : List ℕ  -- by the place of an endpoint: the number of its next packet on the high-speed bus
  pub below : List ℕ  -- by the place of an endpoint: the number of its next packet below a translator
  pub microframe : ℕ  -- the number of the microframe, from 1 at the first that begins

-- the bus with what is fixed of it
pub record Wired : Type 0 where
  pub fixed : Fixed
  pub bus : Bus

-- ---- the opening: the end of microframe 0, with no packet sent

abbrev pub no_packets : Script → List ℕ
no_packets s = replicate (length (seats_of s)) 0

abbrev pub opening_bus : Script → Bus
opening_bus s = record {
  devices = map opening s.devices;
  hubs = map Hubs.opening s.hubs;
  high = no_packets s;
  below = no_packets s;
  microframe = 0;
}

abbrev pub opening_wired : Script → Wired
opening_wired s = record { fixed = fixed_of s; bus = opening_bus s }

-- ---- the beginning of a microframe

-- A high-speed device begins anew in each microframe, any other in each frame of eight (5.3).
abbrev pub begins_anew : Speed → ℕ → Bool
begins_anew Speeds.High frindex = true
begins_anew _ frindex = frindex % 8 == 0

abbrev pub begun_at : ℕ → Device → Device
begun_at frindex d = if begins_anew d.speed frindex then begun d else d

abbrev pub floor_of : Bus → Floor
floor_of b = record { devices = b.devices; numbers = b.below }

-- The hubs work for the microframe that ended (11.18), in their order; then it begins anew for the devices.
abbrev pub begun_with : ℕ → List HubContent → Floor → Bus → Bus
begun_with frindex hubs floor b = record b {
  devices = map (begun_at frindex) floor.devices;
  hubs = hubs;
  below = floor.numbers;
  microframe = later b.microframe 1;
}

abbrev pub begin_after : Fixed → ℕ → Bus → Bus
begin_after fixed frindex b =
    begun_with frindex (hubs_worked fixed frindex b.hubs (floor_of b)) (floor_worked fixed b.hubs (floor_of b)) b

abbrev pub is_allowed : Fixed → Bus → Bool
is_allowed fixed b = not (is_held fixed.holds (later b.microframe 1))

-- ---- who hears an ask

-- Who hears a plain ask for an endpoint: a device below a hub isn't on the high-speed bus.
abbrev pub hears_plain : Owner → Answerer
hears_plain (Owners.Hub place) = Answerers.Hub place
hears_plain (Owners.High place) = Answerers.Device place
hears_plain (Owners.Below place hub port stuff) = Answerers.Nobody

-- how many bytes in 36 stuffed bits make the packets of an endpoint below a hub longer (7.1.9)
abbrev pub stuff_of : Owner → ℕ
stuff_of (Owners.Below place hub port stuff) = stuff
stuff_of _ = 0

-- Who hears a split ask: the translator of the hub that it names.
abbrev pub hears_split : List HubContent → ℕ → ℕ → Answerer
hears_split hubs hub stuff =
    option_map_or (λ place. Answerers.Translator place stuff) (position (λ h. h.address == hub) hubs) Answerers.Nobody

abbrev pub hears : Bus → Split → Owner → Answerer
hears b Plain owner = hears_plain owner
hears b (Start hub port part) owner = hears_split b.hubs hub (stuff_of owner)
hears b (Complete hub port) owner = hears_split b.hubs hub (stuff_of owner)

abbrev pub asked_at : Fixed → Bus → Split → ℕ → Option Asked
asked_at fixed b split place =
    option_and_then (λ seat. option_map (λ packet. record { place = place; name = seat.name; packet = packet; who = hears b split seat.owner }) (slice_get b.high place))
    (slice_get fixed.seats place)

-- the endpoint that an ask is for
abbrev pub asked_of : Fixed → Bus → Ask → Option Asked
asked_of fixed b ask = option_and_then (asked_at fixed b ask.split) (place_for fixed.seats ask.addr ask.ep (token_kind ask.pid))

-- ---- a transaction

abbrev pub answer_by : Bus → Answerer → Ask → List ℕ → Reply
answer_by b (Answerers.Device place) ask out = device_answer (slice_get b.devices place) ask out
answer_by b (Answerers.Hub place) ask out = hub_answer (slice_get b.hubs place) ask out
answer_by b (Answerers.Translator place stuff) ask out = translator_answer (slice_get b.hubs place) ask
answer_by b Answerers.Nobody ask out = Silent

abbrev pub bus_row : Fixed → Bus → Asked → Ask → List ℕ → WhoHeard
bus_row fixed b e ask out = row_for (losses_of fixed.fates false e (packets_before ask)) ask (answer_by b e.who ask out)

-- the bus once whoever was asked has changed
abbrev pub changed_by : WhoHeard → Answerer → Ask → List ℕ → Bus → Bus
changed_by row (Answerers.Device place) ask out b = record b { devices = changed_at place (device_after row ask out) b.devices }
changed_by row (Answerers.Hub place) ask out b = record b { hubs = changed_at place (hub_after row ask out) b.hubs }
changed_by row (Answerers.Translator place stuff) ask out b =
    record b { hubs = changed_at place (translator_after row ask out stuff) b.hubs }
changed_by row Answerers.Nobody ask out b = b

-- the bus once the packets were sent as well
abbrev pub after_bus_row : WhoHeard → Asked → Ask → List ℕ → Bus → Bus
after_bus_row row e ask out b = record (changed_by row e.who ask out b) { high = slice_set b.high e.place (packet_after row e ask) }

abbrev pub reply_at : Fixed → Bus → Ask → List ℕ → Option Asked → Reply
reply_at fixed b ask out None = Silent
reply_at fixed b ask out (Some e) = asker_hears (bus_row fixed b e ask out) (answer_by b e.who ask out)

-- what the host hears
abbrev pub reply_of : Fixed → Bus → Ask → List ℕ → Reply
reply_of fixed b ask out = reply_at fixed b ask out (asked_of fixed b ask)

abbrev pub after_at : Fixed → Bus → Ask → List ℕ → Option Asked → Bus
after_at fixed b ask out None = b
after_at fixed b ask out (Some e) = after_bus_row (bus_row fixed b e ask out) e ask out b

abbrev pub transact_after : Fixed → Bus → Ask → List ℕ → Bus
transact_after fixed b ask out = after_at fixed b ask out (asked_of fixed b ask)
