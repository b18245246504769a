-- What the translators of a bus tell of interrupt transactions (USB 2.0, 8.5.4, 11.18, 11.20 and 11.21).
--     inward_of pid              a transaction with this token asks for data
--     IsToldAs inward x          what was made of an entry is told to the host as a word: data with a toggle or a handshake, or ERR
--     SaysWord e                 so it is of an entry of an interrupt transaction, and its key is that of its start
--     HubSaysWords h             so it is of each entry of each translator of a hub
--     FitsWay way part           an endpoint of this way sends, takes or controls; an isochronous one has at most two packets in a frame
--     IsPlain d                  so it is of each endpoint of a device
--     ArePlainBelow ..           .. of each device that has an endpoint below a hub
--     BusSaysWords fixed b       both are so of a bus
use Rattle.std.specs.Prelude.{◌≡◌, ℕ, ◌≤◌, Bool, true, false, List, slice_get, Some}
use Rattle.std.specs.List.{AllByRecursion}
use Rattle.usb_base.specs.declared.packets.EpKind.TheVariants.{Interrupt}
use Rattle.usb_base.specs.declared.packets.Pid.{Pid}
use Rattle.usb_base.specs.declared.packets.Pid.TheVariants as pids
use Rattle.usb_base.specs.declared.packets.Way.{Way}
use Rattle.usb_base.specs.declared.packets.Way.TheVariants as ways
use Rattle.hub_keys.specs.Keys.{key_of}
use Rattle.tt_pipeline.specs.declared.entry.Entry.{Entry}
use Rattle.tt_pipeline.specs.declared.entry.Exchange.{Exchange}
use Rattle.tt_pipeline.specs.declared.entry.Exchange.TheVariants.{Ahead, Made}
use Rattle.tt_pipeline.specs.Answers.{result_of}
use Rattle.multi_tt.specs.Translators.{Translator}
use Rattle.hub_class.specs.HubContent.{HubContent}
use Rattle.endpoint_script.specs.declared.endpoint.Endpoint.{Endpoint}
use Rattle.endpoint_script.specs.declared.endpoint.Role.{Role}
use Rattle.endpoint_script.specs.declared.endpoint.Role.TheVariants.{Sends, Takes, Controls, Streams, Hears}
use Rattle.endpoint_script.specs.Device.{Device}
use Rattle.bus_wire.specs.declared.seats.Owner.TheVariants.{Below}
use Rattle.bus_wire.specs.declared.seats.Seat.{Seat}
use Rattle.bus_wire.specs.Bus.{Bus, Fixed}
use Rattle.law_microframes.specs.time.Repeats.{is_split_word}

abbrev pub inward_of : Pid → Bool
inward_of pids.In = true
inward_of _ = false

-- ---- the translators

abbrev pub IsToldAs : Bool → Exchange → Type 0
IsToldAs inward (Ahead bytes) = Unit {0}
IsToldAs inward (Made reply) = is_split_word inward (result_of reply) ≡ true

pub record SaysWord (e : Entry) : Type 0 where
  pub key : e.key ≡ key_of e.ask
  pub told : e.ask.kind ≡ Interrupt → IsToldAs (inward_of e.ask.pid) e.exchange

abbrev pub SayWords : List Entry → Type 0
SayWords es = AllByRecursion SaysWord es

abbrev pub TranslatorSaysWords : Translator → Type 0
TranslatorSaysWords t = SayWords t.pipeline

abbrev pub HubSaysWords : HubContent → Type 0
HubSaysWords h = AllByRecursion TranslatorSaysWords h.translators.all

-- ---- the devices

-- of the data PIDs DATA2 alone is that of the first of three packets (5.9.2)
abbrev pub FitsWay : Way → Role → Type 0
FitsWay ways.In (Sends s) = Unit {0}
FitsWay ways.In (Streams s) = s.multi ≤ 2
FitsWay ways.Out (Takes t) = Unit {0}
FitsWay ways.Out Hears = Unit {0}
FitsWay ways.Ctl (Controls c) = Unit {0}
FitsWay _ _ = ⊥

abbrev pub HasItsWay : Endpoint → Type 0
HasItsWay e = FitsWay e.desc.name.way e.part

abbrev pub IsPlain : Device → Type 0
IsPlain d = AllByRecursion HasItsWay d.endpoints

abbrev pub ArePlainBelow : Fixed → List Device → Type 0
ArePlainBelow fixed devices =
    (place device hub port stuff : ℕ) → (seat : Seat) → (d : Device) → slice_get fixed.seats place ≡ Some seat
    → seat.owner ≡ Below device hub port stuff → slice_get devices device ≡ Some d → IsPlain d

-- ---- a bus

pub record BusSaysWords (fixed : Fixed) (b : Bus) : Type 0 where
  pub hubs : AllByRecursion HubSaysWords b.hubs
  pub devices : ArePlainBelow fixed b.devices
