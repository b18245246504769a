-- A control endpoint wherever its seat is, on the high-speed bus or below a hub (USB 2.0, 5.5.2 and 11.14).
--     control_at w addr num       its device's side; `control_on` while a hub works
--     ControlsOn, ControlsAt      the bus below a hub, and the high-speed bus, as buses of the same law for it
use Rattle.std.specs.Prelude.{ℕ, ◌&&◌, List, Option, Some, None, slice_get, if◌then◌else◌}
use Rattle.endpoint_script.specs.Device.{Device}
use Rattle.bus_wire.specs.declared.seats.TokenKind.TheVariants as Tokens
use Rattle.bus_wire.specs.Seats.{place_for}
use Rattle.bus_wire.specs.Fixed.{Fixed}
use Rattle.bus_wire.specs.Below.{Below}
use Rattle.bus_wire.specs.Bus.{Wired}
use Rattle.claims_report.specs.Controls.{control_of_device, is_at}
use Rattle.claims_report.specs.ControlSides.{Device as Side}
use Rattle.law_devices.specs.request_calls.Bus.{IsControlBus}
use Rattle.law_devices.specs.scripted_requests.Controls.{transacts_by}
use Rattle.law_below_hubs.specs.Raised.{transacts_below}
use Rattle.law_below_hubs.specs.Seated.{end_seated}

-- SETUP, IN and OUT are for the same seat
abbrev pub control_placed : Fixed → List Device → ℕ → ℕ → Option ℕ → Option Side
control_placed fixed devices addr num None = None
control_placed fixed devices addr num (Some place) =
    if is_at place (place_for fixed.seats addr num Tokens.In) && is_at place (place_for fixed.seats addr num Tokens.Out) then
    end_seated control_of_device devices addr num (slice_get fixed.seats place)
    else None

abbrev pub control_in : Fixed → List Device → ℕ → ℕ → Option Side
control_in fixed devices addr num = control_placed fixed devices addr num (place_for fixed.seats addr num Tokens.Setup)

abbrev pub control_at : Wired → ℕ → ℕ → Option Side
control_at w addr num = control_in w.fixed w.bus.devices addr num

abbrev pub control_on : Below → ℕ → ℕ → Option Side
control_on w addr num = control_in w.fixed w.floor.devices addr num

abbrev pub ControlsOn : Type 0
ControlsOn = IsControlBus transacts_below control_on

abbrev pub ControlsAt : Type 0
ControlsAt = IsControlBus transacts_by control_at
