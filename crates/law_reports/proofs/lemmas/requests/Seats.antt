-- The device of a control endpoint, on the high-speed bus or below a hub, is where `stages_at` tells.
use Rattle.std.proofs.Common.{◌≡◌, ℕ, Bool, true, false, ◌&&◌, slice_get, Option, Some, None, if◌then◌else◌, ap}
use Rattle.bus_wire.specs.declared.seats.Owner.{Owner}
use Rattle.bus_wire.specs.declared.seats.Owner.TheVariants as Owners
use Rattle.bus_wire.specs.declared.seats.Seat.{Seat}
use Rattle.bus_wire.specs.declared.seats.TokenKind.TheVariants as Tokens
use Rattle.bus_wire.specs.Seats.{place_for}
use Rattle.bus_wire.specs.Bus.{Bus, Wired}
use Rattle.claims_report.specs.Controls.{control_of_device, is_at}
use Rattle.law_devices.specs.Controls.{control_of, control_of_owner, control_of_seat, control_of_place}
use Rattle.claims_report.specs.ControlSides.{Device}
use Rattle.law_below_hubs.specs.Seated.{device_in, end_seated}
use Rattle.law_below_hubs.specs.SeatedControls.{control_placed, control_at}
use Rattle.claims_world.specs.Requests.{stages_of, stages_of_owner, stages_of_seat, stages_of_place, stages_at}

of_owner : (b : Bus) (addr num : ℕ) (o : Owner) (c : Device) → control_of_owner b addr num o ≡ Some c
    → stages_of_owner b addr num o ≡ Some c.stages
of_owner b addr num (Owners.High place) c is = ap stages_of is
of_owner b addr num (Owners.Hub place) c is = cc
of_owner b addr num (Owners.Below place hub port stuff) c is = cc

of_seat : (b : Bus) (addr num : ℕ) (o : Option Seat) (c : Device) → control_of_seat b addr num o ≡ Some c
    → stages_of_seat b addr num o ≡ Some c.stages
of_seat b addr num None c is = cc
of_seat b addr num (Some seat) c is = of_owner b addr num seat.owner c is

of_same_seat : (t : Bool) (b : Bus) (addr num : ℕ) (o : Option Seat) (c : Device)
    → (if t then control_of_seat b addr num o else None) ≡ Some c → (if t then stages_of_seat b addr num o else None) ≡ Some c.stages
of_same_seat true b addr num o c is = of_seat b addr num o c is
of_same_seat false b addr num o c is = cc

of_place : (w : Wired) (addr num : ℕ) (o : Option ℕ) (c : Device) → control_of_place w addr num o ≡ Some c
    → stages_of_place w addr num o ≡ Some c.stages
of_place w addr num None c is = cc
of_place w addr num (Some place) c is =
    of_same_seat
    (is_at place (place_for w.fixed.seats addr num Tokens.In) && is_at place (place_for w.fixed.seats addr num Tokens.Out))
    w.bus addr num (slice_get w.fixed.seats place) c is

pub stages_as : (w : Wired) (addr num : ℕ) (c : Device) → control_of w addr num ≡ Some c → stages_at w addr num ≡ Some c.stages
stages_as w addr num c is = of_place w addr num (place_for w.fixed.seats addr num Tokens.Setup) c is

-- ---- below a hub

below_owner : (b : Bus) (addr num : ℕ) (name : Option Seat) (c : Device)
    → end_seated control_of_device b.devices addr num name ≡ Some c → stages_of_seat b addr num name ≡ Some c.stages
below_owner b addr num None c is = cc
below_owner b addr num (Some seat) c is = by seat.owner is
  where
    by : (o : Owner) → control_of_device addr num (device_in b.devices o) ≡ Some c → stages_of_owner b addr num o ≡ Some c.stages
    by (Owners.High place) is = ap stages_of is
    by (Owners.Hub place) is = cc
    by (Owners.Below place hub port stuff) is = ap stages_of is

below_same : (t : Bool) (b : Bus) (addr num : ℕ) (o : Option Seat) (c : Device)
    → (if t then end_seated control_of_device b.devices addr num o else None) ≡ Some c
    → (if t then stages_of_seat b addr num o else None) ≡ Some c.stages
below_same true b addr num o c is = below_owner b addr num o c is
below_same false b addr num o c is = cc

below_place : (w : Wired) (addr num : ℕ) (o : Option ℕ) (c : Device) → control_placed w.fixed w.bus.devices addr num o ≡ Some c
    → stages_of_place w addr num o ≡ Some c.stages
below_place w addr num None c is = cc
below_place w addr num (Some place) c is =
    below_same (is_at place (place_for w.fixed.seats addr num Tokens.In) && is_at place (place_for w.fixed.seats addr num Tokens.Out)) w.bus
    addr num (slice_get w.fixed.seats place) c is

pub stages_below : (w : Wired) (addr num : ℕ) (c : Device) → control_at w addr num ≡ Some c → stages_at w addr num ≡ Some c.stages
stages_below w addr num c is = below_place w addr num (place_for w.fixed.seats addr num Tokens.Setup) c is
