-- The bus below a hub (USB 2.0, 11.14 and 11.18): the hub's translator asks on it, and a device behind an enabled port of this hub answers.
--     Below               the bus below one hub, while that hub works
--     below_reply         what the translator hears in a transaction; `below_after` is what that leaves
--     hubs_worked         the hubs after each has worked, in their order; `floor_worked` is what they leave of the devices
use Rattle.std.specs.Prelude.{ℕ, ◌==◌, ◌&&◌, Bool, true, false, List, [], ◌∷◌, map, Option, Some, None, slice_get, slice_set, unwrap_or, if◌then◌else◌}
use Rattle.std.specs.List.{range_with_len}
use Rattle.std.specs.Option.{option_and_then, option_map}
use Rattle.usb_base.specs.declared.packets.Ask.{Ask}
use Rattle.usb_base.specs.declared.packets.Reply.{Reply}
use Rattle.usb_base.specs.declared.packets.Reply.TheVariants.{Silent}
use Rattle.endpoint_script.specs.Device.{Device}
use Rattle.hub_ports.specs.Ports.{is_enabled}
use Rattle.hub_class.specs.HubContent.{HubContent}
use Rattle.hub_class.specs.Microframe.{hub_worked, wire_left}
use Rattle.bus_wire.specs.declared.asked.Answerer.{Answerer}
use Rattle.bus_wire.specs.declared.asked.Answerer.TheVariants as Answerers
use Rattle.bus_wire.specs.declared.asked.Asked.{Asked}
use Rattle.bus_wire.specs.declared.seats.Owner.{Owner}
use Rattle.bus_wire.specs.declared.seats.Owner.TheVariants as Owners
use Rattle.bus_wire.specs.declared.who_heard.WhoHeard.{WhoHeard}
use Rattle.bus_wire.specs.Fixed.{Fixed}
use Rattle.bus_wire.specs.Seats.{token_kind, place_for}
use Rattle.bus_wire.specs.WhoHeard.{asker_hears, packets_before}
use Rattle.bus_wire.specs.Asking.{losses_of, row_for, packet_after, device_after, device_answer, changed_at}

-- what the work of hubs changes beside themselves
pub record Floor : Type 0 where
  pub devices : List Device
  pub numbers : List ℕ  -- by the place of an endpoint: the number of its next packet below a translator

pub record Below : Type 0 where
  pub fixed : Fixed
  pub floor : Floor
  pub hub : ℕ  -- the address of the hub that asks
  pub enabled : List Bool  -- by the number of a port, 0 to 15: it is enabled

-- which ports of a hub are enabled, by their numbers; there is no port 0, and none past 15
abbrev pub enabled_ports : HubContent → List Bool
enabled_ports h = map (λ port. is_enabled port h.ports) (range_with_len 0 16)

abbrev pub below_at : Fixed → HubContent → Floor → Below
below_at fixed h floor = record { fixed = fixed; floor = floor; hub = h.address; enabled = enabled_ports h }

-- ---- a transaction

-- Who hears an ask for an endpoint: its device, where that is behind an enabled port of this hub.
abbrev pub hears_at : Below → Owner → Answerer
hears_at w (Owners.Below device hub port stuff) =
    if hub == w.hub && unwrap_or (slice_get w.enabled port) false then Answerers.Device device else Answerers.Nobody
hears_at w (Owners.High device) = Answerers.Nobody
hears_at w (Owners.Hub place) = Answerers.Nobody

abbrev pub asked_below_at : Below → ℕ → Option Asked
asked_below_at w place =
    option_and_then (λ seat. option_map (λ packet. record { place = place; name = seat.name; packet = packet; who = hears_at w seat.owner }) (slice_get w.floor.numbers place))
    (slice_get w.fixed.seats place)

-- the endpoint that an ask is for
abbrev pub asked_below : Below → Ask → Option Asked
asked_below w ask = option_and_then (asked_below_at w) (place_for w.fixed.seats ask.addr ask.ep (token_kind ask.pid))

abbrev pub floor_answer : Floor → Answerer → Ask → List ℕ → Reply
floor_answer floor (Answerers.Device place) ask out = device_answer (slice_get floor.devices place) ask out
floor_answer floor (Answerers.Hub place) ask out = Silent
floor_answer floor (Answerers.Translator place stuff) ask out = Silent
floor_answer floor Answerers.Nobody ask out = Silent

abbrev pub below_row : Below → Asked → Ask → List ℕ → WhoHeard
below_row w e ask out = row_for (losses_of w.fixed.fates true e (packets_before ask)) ask (floor_answer w.floor e.who ask out)

abbrev pub devices_after : WhoHeard → Answerer → Ask → List ℕ → List Device → List Device
devices_after row (Answerers.Device place) ask out devices = changed_at place (device_after row ask out) devices
devices_after row (Answerers.Hub place) ask out devices = devices
devices_after row (Answerers.Translator place stuff) ask out devices = devices
devices_after row Answerers.Nobody ask out devices = devices

abbrev pub floor_after : WhoHeard → Asked → Ask → List ℕ → Floor → Floor
floor_after row e ask out floor = record {
  devices = devices_after row e.who ask out floor.devices;
  numbers = slice_set floor.numbers e.place (packet_after row e ask);
}

abbrev pub below_reply_at : Below → Ask → List ℕ → Option Asked → Reply
below_reply_at w ask out None = Silent
below_reply_at w ask out (Some e) = asker_hears (below_row w e ask out) (floor_answer w.floor e.who ask out)

-- what the translator hears
abbrev pub below_reply : Below → Ask → List ℕ → Reply
below_reply w ask out = below_reply_at w ask out (asked_below w ask)

abbrev pub below_after_at : Below → Ask → List ℕ → Option Asked → Below
below_after_at w ask out None = w
below_after_at w ask out (Some e) = record w { floor = floor_after (below_row w e ask out) e ask out w.floor }

abbrev pub below_after : Below → Ask → List ℕ → Below
below_after w ask out = below_after_at w ask out (asked_below w ask)

-- ---- the work of hubs for the microframe before the one with this frame index

abbrev pub hub_worked_at : Fixed → ℕ → HubContent → Floor → HubContent
hub_worked_at fixed frindex h floor = hub_worked below_reply below_after frindex h (below_at fixed h floor)

abbrev pub floor_left : Fixed → HubContent → Floor → Floor
floor_left fixed h floor = (wire_left below_reply below_after h (below_at fixed h floor)).floor

abbrev pub hubs_worked : Fixed → ℕ → List HubContent → Floor → List HubContent
hubs_worked fixed frindex [] floor = []
hubs_worked fixed frindex (h ∷ hs) floor = hub_worked_at fixed frindex h floor ∷ hubs_worked fixed frindex hs (floor_left fixed h floor)

abbrev pub floor_worked : Fixed → List HubContent → Floor → Floor
floor_worked fixed [] floor = floor
floor_worked fixed (h ∷ hs) floor = floor_worked fixed hs (floor_left fixed h floor)
