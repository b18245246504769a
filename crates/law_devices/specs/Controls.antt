-- The device's side of a control endpoint as a bus stands (USB 2.0, 5.5 and 8.5.3).
--     control_of w addr num                that of the control endpoint of this address and number, where no IN or OUT endpoint has them
--                                          too; None where there is no such endpoint
use Rattle.std.specs.Prelude.{ℕ, ◌&&◌, slice_get, Option, Some, if◌then◌else◌, None}
use Rattle.bus_wire.specs.declared.seats.Owner.{Owner}
use Rattle.bus_wire.specs.declared.seats.Owner.TheVariants as Owners
use Rattle.bus_wire.specs.declared.seats.Seat.{Seat}
use Rattle.bus_wire.specs.declared.seats.TokenKind.TheVariants.{In, Out, Setup}
use Rattle.bus_wire.specs.Bus.{Bus, Wired}
use Rattle.bus_wire.specs.Seats.{place_for}
use Rattle.claims_report.specs.ControlSides.{Device as Side}
use Rattle.claims_report.specs.Controls.{control_of_device, is_at}

abbrev pub control_of_owner : Bus → ℕ → ℕ → Owner → Option Side
control_of_owner b addr num (Owners.High place) = control_of_device addr num (slice_get b.devices place)
control_of_owner b addr num (Owners.Hub place) = None
control_of_owner b addr num (Owners.Below place hub port stuff) = None

abbrev pub control_of_seat : Bus → ℕ → ℕ → Option Seat → Option Side
control_of_seat b addr num None = None
control_of_seat b addr num (Some seat) = control_of_owner b addr num seat.owner

abbrev pub control_of_place : Wired → ℕ → ℕ → Option ℕ → Option Side
control_of_place w addr num None = None
control_of_place w addr num (Some place) =
    if is_at place (place_for w.fixed.seats addr num In) && is_at place (place_for w.fixed.seats addr num Out) then
    control_of_seat w.bus addr num (slice_get w.fixed.seats place)
    else None

abbrev pub control_of : Wired → ℕ → ℕ → Option Side
control_of w addr num = control_of_place w addr num (place_for w.fixed.seats addr num Setup)
