-- Which endpoints stand on the buses (USB 2.0, 5.3, 11.1 and 11.23): endpoint 0 of each hub, and each that a line of the script gives to a
-- device, on the high-speed bus, or below the hub that the line names.
--     HasSeat seats name owner   an endpoint of this name stands there, of this hub or device
--     owner_of n e               whose the endpoint e of the n-th device is
--     IsOfDevice s name n e      a line gives the endpoint e, of this name, to the n-th device
--     AreSeats s seats           these are they
use Rattle.std.specs.Prelude.{◌≡◌, ℕ, slice_get, Option, Some, None, List}
use Rattle.usb_base.specs.declared.endpoints.EpName.{EpName}
use Rattle.usb_base.specs.declared.packets.Way.TheVariants.{Ctl}
use Rattle.script_types.specs.declared.devices.DeviceText.{DeviceText}
use Rattle.script_types.specs.declared.devices.EpText.{EpText}
use Rattle.script_types.specs.declared.devices.HubText.{HubText}
use Rattle.script_types.specs.declared.scripts.Script.{Script}
use Rattle.bus_wire.specs.declared.seats.Owner.{Owner}
use Rattle.bus_wire.specs.declared.seats.Owner.TheVariants.{Hub, High, Below}
use Rattle.bus_wire.specs.declared.seats.Seat.{Seat}

pub record HasSeat (seats : List Seat) (name : EpName) (owner : Owner) : Type 0 where
  pub place : ℕ
  pub seat : Seat
  pub there : slice_get seats place ≡ Some seat
  pub named : seat.name ≡ name
  pub owned : seat.owner ≡ owner

abbrev pub owner_by : ℕ → EpText → Option ℕ → Owner
owner_by n e None = High n
owner_by n e (Some hub) = Below n hub e.desc.port e.stuff

abbrev pub owner_of : ℕ → EpText → Owner
owner_of n e = owner_by n e e.desc.hub

pub record IsOfDevice (s : Script) (name : EpName) (n : ℕ) (e : EpText) : Type 0 where
  pub device : DeviceText
  pub there : slice_get s.devices n ≡ Some device
  pub line : ℕ
  pub here : slice_get device.eps line ≡ Some e
  pub named : e.desc.name ≡ name

pub record IsSeated (s : Script) (seats : List Seat) (name : EpName) : Type 0 where
  pub number : ℕ
  pub endpoint : EpText
  pub of : IsOfDevice s name number endpoint
  pub seat : HasSeat seats name (owner_of number endpoint)

pub record AreSeats (s : Script) (seats : List Seat) : Type 0 where
  pub hubs : (n : ℕ) (h : HubText) → slice_get s.hubs n ≡ Some h → HasSeat seats (record { addr = h.addr; num = 0; way = Ctl }) (Hub n)
  pub devices : (i n : ℕ) (name : EpName) (e : EpText) → slice_get s.endpoints i ≡ Some name → IsOfDevice s name n e → IsSeated s seats name
