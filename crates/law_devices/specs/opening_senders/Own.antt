-- Scripts whose devices have endpoints of their own (USB 2.0, 8.3.2.1 and 9.6.6), and what their senders have at the opening.
--     HasOwnDevices s       each endpoint that a device's text names has the device's address, and no two devices have one
--     OpeningSends          the law: a sender has all packets that the script has for the endpoint of its name, from the first on
use Rattle.std.specs.Prelude.{◌≡◌, ℕ, slice_get, Some}
use Rattle.std.specs.List.{AllByRecursion}
use Rattle.usb_base.specs.declared.packets.Way.TheVariants as Ways
use Rattle.script_types.specs.declared.devices.DeviceText.{DeviceText}
use Rattle.script_types.specs.declared.scripts.Script.{Script}
use Rattle.endpoint_script.specs.Items.{packets_of}
use Rattle.bus_wire.specs.Bus.{opening_wired}
use Rattle.claims_report.specs.Streams.{items_of}
use Rattle.law_ring.specs.Bus.{Sender}
use Rattle.law_devices.specs.Senders.{sender_of}

pub record HasOwnDevices (s : Script) : Type 0 where
  pub own : (place : ℕ) (d : DeviceText) → slice_get s.devices place ≡ Some d → AllByRecursion (λ text. text.desc.name.addr ≡ d.addr) d.eps
  pub apart : (i j : ℕ) (d e : DeviceText) → slice_get s.devices i ≡ Some d → slice_get s.devices j ≡ Some e → d.addr ≡ e.addr → i ≡ j

abbrev pub OpeningSends : Type 0
OpeningSends = (s : Script) (addr ep : ℕ) (x : Sender) → HasOwnDevices s → sender_of (opening_wired s) addr ep ≡ Some x
    → x.left ≡ packets_of (items_of s (record { addr = addr; num = ep; way = Ways.In }))
