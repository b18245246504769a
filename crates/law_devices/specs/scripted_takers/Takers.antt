-- The takers of the bus of a script: its bulk and interrupt OUT endpoints on the high-speed bus, each with the bytes that it took (USB 2.0, 8.5.1,
-- 8.5.2, 8.5.4 and 8.6).
--     taker_of_part, taker_of_device
--                             the taker that an endpoint is, and that of a device
--     taker_of w addr ep      the one that an OUT of this address and number is for; None where that is for another kind of endpoint, or for none
use Rattle.std.specs.Prelude.{ℕ, ◌==◌, Option, Some, None, slice_get, if◌then◌else◌}
use Rattle.usb_base.specs.declared.packets.Way.TheVariants as Ways
use Rattle.endpoint_script.specs.declared.endpoint.Endpoint.{Endpoint}
use Rattle.endpoint_script.specs.declared.endpoint.Role.{Role}
use Rattle.endpoint_script.specs.declared.endpoint.Role.TheVariants.{Sends, Takes, Controls, Streams, Hears}
use Rattle.endpoint_script.specs.Device.{Device, place_named, endpoint_at}
use Rattle.bus_wire.specs.declared.seats.Owner.{Owner}
use Rattle.bus_wire.specs.declared.seats.Owner.TheVariants as Owners
use Rattle.bus_wire.specs.declared.seats.Seat.{Seat}
use Rattle.bus_wire.specs.declared.seats.TokenKind.TheVariants.{Out}
use Rattle.bus_wire.specs.Seats.{place_for}
use Rattle.bus_wire.specs.Bus.{Bus, Wired}
use Rattle.law_ring.specs.OutBus.{Taker}

abbrev pub taker_of_part : Role → Option Taker
taker_of_part (Sends s) = None
taker_of_part (Takes t) = Some (record { taken = t.taken; expects = t.toggle })
taker_of_part (Controls c) = None
taker_of_part (Streams s) = None
taker_of_part Hears = None

abbrev pub taker_of_endpoint : Option Endpoint → Option Taker
taker_of_endpoint None = None
taker_of_endpoint (Some e) = taker_of_part e.part

abbrev pub taker_of_device : ℕ → ℕ → Option Device → Option Taker
taker_of_device addr ep None = None
taker_of_device addr ep (Some d) = if addr == d.address then taker_of_endpoint (endpoint_at d.endpoints (place_named d.endpoints ep Ways.Out)) else None

abbrev pub taker_of_owner : Bus → ℕ → ℕ → Owner → Option Taker
taker_of_owner b addr ep (Owners.High place) = taker_of_device addr ep (slice_get b.devices place)
taker_of_owner b addr ep (Owners.Hub place) = None
taker_of_owner b addr ep (Owners.Below place hub port stuff) = None

abbrev pub taker_of_seat : Bus → ℕ → ℕ → Option Seat → Option Taker
taker_of_seat b addr ep None = None
taker_of_seat b addr ep (Some seat) = taker_of_owner b addr ep seat.owner

abbrev pub taker_of_place : Wired → ℕ → ℕ → Option ℕ → Option Taker
taker_of_place w addr ep None = None
taker_of_place w addr ep (Some place) = taker_of_seat w.bus addr ep (slice_get w.fixed.seats place)

abbrev pub taker_of : Wired → ℕ → ℕ → Option Taker
taker_of w addr ep = taker_of_place w addr ep (place_for w.fixed.seats addr ep Out)
