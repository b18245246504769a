-- A bus by which a report can be closed: each IN or OUT endpoint that the script opens has its seat, and each device an address of its own (USB 2.0, 8.3.2.1 and 9.4.6).
--     HasSeat seats x         one of the seats has the name and the kind of the endpoint x
--     OpensSeats s seats      so has each IN and OUT endpoint that the script opens
--     AreApart devices        no two devices have one address
--     IsSeatedBus s fixed b   the bus is so
use Rattle.std.specs.Prelude.{◌≡◌, ℕ, List, slice_get, Some}
use Rattle.std.specs.List.{AllByRecursion}
use Rattle.usb_base.specs.declared.commands.Cmd.TheVariants as commands
use Rattle.usb_base.specs.declared.endpoints.EpDesc.{EpDesc}
use Rattle.script_types.specs.declared.scripts.Line.{Line}
use Rattle.script_types.specs.declared.scripts.Line.TheVariants as lines
use Rattle.script_types.specs.declared.scripts.Script.{Script}
use Rattle.endpoint_script.specs.Device.{Device}
use Rattle.bus_wire.specs.declared.seats.Seat.{Seat}
use Rattle.bus_wire.specs.Bus.{Fixed, Bus}
use Rattle.law_driver.specs.chained_transfers.Bulk.{IsDataWay}

pub record HasSeat (seats : List Seat) (x : EpDesc) : Type 0 where
  pub place : ℕ
  pub seat : Seat
  pub here : slice_get seats place ≡ Some seat
  pub name : seat.name ≡ x.name
  pub kind : seat.kind ≡ x.kind

abbrev pub OpensItsSeat : List Seat → Line → Type 0
OpensItsSeat seats (lines.Command (commands.OpenEp x)) = IsDataWay x.name.way → HasSeat seats x
OpensItsSeat seats _ = Unit {0}

abbrev pub OpensSeats : Script → List Seat → Type 0
OpensSeats s seats = AllByRecursion (λ line. OpensItsSeat seats line.1) s.lines

abbrev pub AreApart : List Device → Type 0
AreApart devices = (i j : ℕ) (d e : Device) → slice_get devices i ≡ Some d → slice_get devices j ≡ Some e → d.address ≡ e.address → i ≡ j

pub record IsSeatedBus (s : Script) (fixed : Fixed) (b : Bus) : Type 0 where
  pub seats : OpensSeats s fixed.seats
  pub apart : AreApart b.devices
