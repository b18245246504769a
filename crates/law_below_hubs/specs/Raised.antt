-- The bus below a hub as a bus of the same laws (USB 2.0, 11.14 and 11.18): a bus without hubs, on which those endpoints stand whose device
-- is behind an enabled port of this hub.
--     raised w                that bus
--     transacts_below         a transaction on the bus below, as the translators of a hub ask it
--     sender_below, taker_below, control_below
--                             the ends that are asked on it, by address and number
use Rattle.std.specs.Prelude.{◌≡◌, ℕ, not, List, [], map, Option}
use Rattle.usb_base.specs.declared.packets.Ask.{Ask}
use Rattle.usb_base.specs.declared.packets.Reply.{Reply}
use Rattle.usb_base.specs.declared.packets.Split.TheVariants.{Plain}
use Rattle.script_types.specs.declared.scripts.FateText.{FateText}
use Rattle.bus_wire.specs.declared.asked.Answerer.{Answerer}
use Rattle.bus_wire.specs.declared.asked.Answerer.TheVariants as Answerers
use Rattle.bus_wire.specs.declared.seats.Owner.{Owner}
use Rattle.bus_wire.specs.declared.seats.Owner.TheVariants as Owners
use Rattle.bus_wire.specs.declared.seats.Seat.{Seat}
use Rattle.bus_wire.specs.Fixed.{Fixed}
use Rattle.bus_wire.specs.Below.{Below, hears_at, below_reply, below_after}
use Rattle.bus_wire.specs.Bus.{Bus, Wired}
use Rattle.claims_report.specs.ControlSides.{Device as Side}
use Rattle.law_devices.specs.Controls.{control_of}
use Rattle.law_ring.specs.Bus.{Sender}
use Rattle.law_ring.specs.OutBus.{Taker}
use Rattle.law_devices.specs.Senders.{sender_of}
use Rattle.law_devices.specs.scripted_takers.Takers.{taker_of}

-- an endpoint that nobody hears a plain ask for
abbrev pub nobody : Owner
nobody = Owners.Below 0 0 0 0

abbrev pub raised_to : Answerer → Owner
raised_to (Answerers.Device place) = Owners.High place
raised_to (Answerers.Hub place) = nobody
raised_to (Answerers.Translator place stuff) = nobody
raised_to Answerers.Nobody = nobody

abbrev pub raised_seat : Below → Seat → Seat
raised_seat w seat = record seat { owner = raised_to (hears_at w seat.owner) }

-- what becomes of a packet below becomes of it here
abbrev pub raised_fate : FateText → FateText
raised_fate f = record f { down = not f.down }

abbrev pub raised_fixed : Below → Fixed
raised_fixed w = record { seats = map (raised_seat w) w.fixed.seats; fates = map raised_fate w.fixed.fates; holds = [] }

abbrev pub raised_bus : Below → Bus
raised_bus w = record { devices = w.floor.devices; hubs = []; high = w.floor.numbers; below = []; microframe = 0 }

abbrev pub raised : Below → Wired
raised w = record { fixed = raised_fixed w; bus = raised_bus w }

-- translators ask plainly
pub record TransactsBelow (w : Below) (ask : Ask) (out : List ℕ) (reply : Reply) (v : Below) : Type 0 where
  pub plain : ask.split ≡ Plain
  pub heard : reply ≡ below_reply w ask out
  pub after : v ≡ below_after w ask out

abbrev pub transacts_below : Below → Ask → List ℕ → Reply → Below → Type 0
transacts_below = TransactsBelow

abbrev pub sender_below : Below → ℕ → ℕ → Option Sender
sender_below w addr ep = sender_of (raised w) addr ep

abbrev pub taker_below : Below → ℕ → ℕ → Option Taker
taker_below w addr ep = taker_of (raised w) addr ep

abbrev pub control_below : Below → ℕ → ℕ → Option Side
control_below w addr num = control_of (raised w) addr num
