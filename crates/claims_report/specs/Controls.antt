-- The control endpoints of devices that a script opens (USB 2.0, 5.5, 8.5.3 and 9.4).
--     is_of_hub s addr                     a hub has this address: its endpoint 0 answers by the state of the hub, and not by lines of the
--                                          script
--     control_of_part, control_of_device   the device's side that an endpoint is, and that of a device
use Rattle.std.specs.List.{list_any}
use Rattle.std.specs.Prelude.{ℕ, Bool, ◌==◌, true, ◌&&◌, false, Option, Some, if◌then◌else◌, None}
use Rattle.usb_base.specs.declared.packets.Way.TheVariants as Ways
use Rattle.script_types.specs.declared.scripts.Script.{Script}
use Rattle.endpoint_script.specs.declared.endpoint.Endpoint.{Endpoint}
use Rattle.endpoint_script.specs.declared.endpoint.Role.{Role}
use Rattle.endpoint_script.specs.declared.endpoint.Role.TheVariants.{Sends, Takes, Controls, Streams, Hears}
use Rattle.endpoint_script.specs.Controlling.{Controlling, place_in, reply_at}
use Rattle.endpoint_script.specs.Device.{Device, place_named, endpoint_at}
use Rattle.claims_report.specs.ControlSides.{Device as Side}

abbrev pub is_of_hub : Script → ℕ → Bool
is_of_hub s addr = list_any (λ hub. hub.addr == addr) s.hubs

abbrev pub side_in : Controlling → Side
side_in c = record { known = λ setup. reply_at c.requests (place_in c.requests setup); stages = c.stages }

abbrev pub control_of_part : Role → Option Side
control_of_part (Sends s) = None
control_of_part (Takes t) = None
control_of_part (Controls c) = Some (side_in c)
control_of_part (Streams s) = None
control_of_part Hears = None

abbrev pub control_of_endpoint : Option Endpoint → Option Side
control_of_endpoint None = None
control_of_endpoint (Some e) = control_of_part e.part

abbrev pub is_nowhere : Option ℕ → Bool
is_nowhere None = true
is_nowhere (Some place) = false

-- the device has the address, and no IN or OUT endpoint of the number
abbrev pub is_alone : ℕ → ℕ → Device → Bool
is_alone addr num d = addr == d.address && (is_nowhere (place_named d.endpoints num Ways.In) && is_nowhere (place_named d.endpoints num Ways.Out))

abbrev pub control_of_device : ℕ → ℕ → Option Device → Option Side
control_of_device addr num None = None
control_of_device addr num (Some d) = if is_alone addr num d then control_of_endpoint (endpoint_at d.endpoints (place_named d.endpoints num Ways.Ctl)) else None

abbrev pub is_at : ℕ → Option ℕ → Bool
is_at place None = false
is_at place (Some other) = place == other
