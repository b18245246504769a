-- Worlds whose packets on the high-speed bus all get through: each high-speed endpoint has its device there, which answers as its kind may,
-- and no queue at high speed uses up its errors (EHCI 1.0, 3.5.3 and 4.10.3; USB 2.0, 8.4, 8.5 and 11.23).
--     is_high_asked x            a queue head of a high-speed endpoint; that of the ring itself has the address 0 and the number 0
--     HasHandshakes e            an interrupt endpoint of a device at high speed has no NYET to answer
--     IsOfText s d               the device is that of one of the script's, with its endpoints
--     IsHeardBus s b             so are all of the bus; each endpoint has the number of its next packet there; each hub has its address;
--                                and a control endpoint of a device that was on the high-speed bus is there
--     HasControl, IsServed s x   what the script has for the endpoint so described, where it opens it
--     AreServed s d              .. and for each of a driver
--     IsHeardWorld s w           the world is so
use Rattle.std.specs.Prelude.{◌≡◌, ℕ, ◌==◌, ◌&&◌, ◌||◌, ◌⊎◌, Bool, true, false, not, is_some, map, slice_get, Some}
use Rattle.std.specs.List.{AllByRecursion, list_any}
use Rattle.usb_base.specs.declared.endpoints.EpDesc.{EpDesc}
use Rattle.usb_base.specs.declared.packets.EpKind.TheVariants as kinds
use Rattle.usb_base.specs.declared.packets.Speed.TheVariants.{High}
use Rattle.script_types.specs.declared.devices.DeviceText.{DeviceText}
use Rattle.script_types.specs.declared.devices.HubText.{HubText}
use Rattle.script_types.specs.declared.scripts.Script.{Script}
use Rattle.endpoint_script.specs.declared.endpoint.Endpoint.{Endpoint as DeviceEndpoint}
use Rattle.endpoint_script.specs.declared.endpoint.Role.{Role}
use Rattle.endpoint_script.specs.declared.endpoint.Role.TheVariants.{Takes}
use Rattle.endpoint_script.specs.Device.{Device}
use Rattle.hub_class.specs.HubContent.{HubContent}
use Rattle.bus_wire.specs.declared.seats.Seat.{Seat}
use Rattle.bus_wire.specs.Bus.{Bus, fixed_of, opening_wired}
use Rattle.bus_wire.specs.Seats.{seats_of}
use Rattle.claims_report.specs.Controls.{is_of_hub}
use Rattle.law_devices.specs.Controls.{control_of}
use Rattle.claims_world.specs.Quiet.{is_nyet}
use Rattle.drv_table.specs.declared.content.Endpoint.{Endpoint}
use Rattle.drv_table.specs.DriverContent.{DriverContent}
use Rattle.drv_table.specs.Words.{is_control, is_high}
use Rattle.law_microframes.specs.due.repeats.Hearing.{HasNumber}
use Rattle.law_opened.specs.Opened.{IsOpened}
use Rattle.law_world.specs.memory.Mixed.{Standing}
use Rattle.law_reports.specs.lines.Lined.{Lines}
use Rattle.law_reports.specs.pipes.Declared.{sides_of}
use Rattle.law_reports.specs.pipes.Piped.{Heads, IsPiped}
use Rattle.law_reports.specs.quiet.Errors.{Key}
use Rattle.law_reports.specs.quiet.Laws.{HasErrorsLeft}
use Rattle.bus_world.specs.World.{World}

abbrev pub is_high_asked : Key → Bool
is_high_asked x = x.eps == 2 && (x.dtc || not (x.ep == 0))

-- ---- the bus

abbrev pub PartHasHandshakes : Role → Type 0
PartHasHandshakes (Takes t) = list_any is_nyet t.items ≡ false
PartHasHandshakes _ = Unit {0}

abbrev pub HasHandshakes : DeviceEndpoint → Type 0
HasHandshakes e = e.desc.kind ≡ kinds.Interrupt → e.desc.speed ≡ High → PartHasHandshakes e.part

pub record IsOfText (s : Script) (d : Device) : Type 0 where
  pub place : ℕ
  pub text : DeviceText
  pub there : slice_get s.devices place ≡ Some text
  pub address : d.address ≡ text.addr
  pub descs : map (λ e. e.desc) d.endpoints ≡ map (λ e. e.desc) text.eps
  pub handshakes : AllByRecursion HasHandshakes d.endpoints

pub record IsHeardBus (s : Script) (b : Bus) : Type 0 where
  pub numbers : (place : ℕ) (seat : Seat) → slice_get (seats_of s) place ≡ Some seat → HasNumber b place
  pub hubs : (n : ℕ) (h : HubText) → slice_get s.hubs n ≡ Some h → (k : HubContent) × (slice_get b.hubs n ≡ Some k) × (k.address ≡ h.addr)
  pub devices : AllByRecursion (IsOfText s) b.devices
  pub controls : (addr num : ℕ) → is_some (control_of (opening_wired s) addr num) ≡ true
      → is_some (control_of (record { fixed = fixed_of s; bus = b }) addr num) ≡ true

-- ---- the endpoints that are opened

-- endpoint 0 of a hub, or of a device on the high-speed bus, with packets of 64 bytes (5.5.3)
pub record HasControl (s : Script) (x : EpDesc) : Type 0 where
  pub zero : x.name.num ≡ 0
  pub most : x.max ≡ 64
  pub of : (is_of_hub s x.name.addr ≡ true) ⊎ (is_some (control_of (opening_wired s) x.name.addr x.name.num) ≡ true)

pub record IsServed (s : Script) (x : EpDesc) : Type 0 where
  pub opened : IsOpened s x
  pub named : (is_control x.kind || not (x.name.num == 0)) ≡ true
  pub control : is_control x.kind ≡ true → is_high x.speed ≡ true → HasControl s x

abbrev pub AreServed : Script → DriverContent → Type 0
AreServed s d = (e : ℕ) (y : Endpoint) → slice_get d.endpoints e ≡ Some y → IsServed s y.desc

-- ---- the world

pub record IsHeardWorld (s : Script) (w : World) : Type 0 where
  pub standing : Standing
  pub lines : Lines
  pub heads : Heads
  pub piped : IsPiped (fixed_of s) (sides_of s) standing lines heads w
  pub left : HasErrorsLeft is_high_asked standing w
  pub served : AreServed s w.driver
  pub bus : IsHeardBus s w.bus
