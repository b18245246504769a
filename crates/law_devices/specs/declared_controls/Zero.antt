-- Number 0 of a device is that of its control endpoint alone (USB 2.0, 5.3.1.2): no sender and no taker has it.
--     IsZeroAlone d         no IN or OUT endpoint of the device has number 0
--     AreZeroesAlone b      so it is of each device of the bus
--     IsNoStream w addr num the bus has no sender and no taker of this address and number
use Rattle.std.specs.Prelude.{◌≡◌, ℕ, None}
use Rattle.std.specs.List.{AllByRecursion}
use Rattle.usb_base.specs.declared.packets.Way.TheVariants as ways
use Rattle.endpoint_script.specs.Device.{Device, place_named}
use Rattle.bus_wire.specs.Bus.{Bus, Wired}
use Rattle.law_devices.specs.Senders.{sender_of}
use Rattle.law_devices.specs.scripted_takers.Takers.{taker_of}

pub record IsZeroAlone (d : Device) : Type 0 where
  pub no_in : place_named d.endpoints 0 ways.In ≡ None
  pub no_out : place_named d.endpoints 0 ways.Out ≡ None

abbrev pub AreZeroesAlone : Bus → Type 0
AreZeroesAlone b = AllByRecursion IsZeroAlone b.devices

pub record IsNoStream (w : Wired) (addr num : ℕ) : Type 0 where
  pub sends : sender_of w addr num ≡ None
  pub takes : taker_of w addr num ≡ None
