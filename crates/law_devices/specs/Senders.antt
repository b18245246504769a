-- The senders of the bus of a script: its bulk and interrupt IN endpoints on the high-speed bus, each with the packets that it has left (USB 2.0,
-- 8.5.2, 8.5.4 and 8.6).
--     sender_of_part, sender_of_device
--                             the sender that an endpoint is, and that of a device
--     sender_of w addr ep     the one that an IN of this address and number is for; None where that is for another kind of endpoint, or for none
use Rattle.std.specs.Prelude.{ℕ, ◌==◌, Option, Some, None, slice_get, if◌then◌else◌}
use Rattle.usb_base.specs.declared.packets.Way.TheVariants as Ways
use Rattle.endpoint_script.specs.declared.endpoint.Endpoint.{Endpoint}
use Rattle.endpoint_script.specs.declared.endpoint.Role.{Role}
use Rattle.endpoint_script.specs.declared.endpoint.Role.TheVariants.{Sends, Takes, Controls, Streams, Hears}
use Rattle.endpoint_script.specs.Items.{packets_of}
use Rattle.endpoint_script.specs.Device.{Device, place_named, endpoint_at}
use Rattle.bus_wire.specs.declared.seats.Owner.{Owner}
use Rattle.bus_wire.specs.declared.seats.Owner.TheVariants as Owners
use Rattle.bus_wire.specs.declared.seats.Seat.{Seat}
use Rattle.bus_wire.specs.declared.seats.TokenKind.TheVariants.{In}
use Rattle.bus_wire.specs.Seats.{place_for}
use Rattle.bus_wire.specs.Bus.{Bus, Wired}
use Rattle.law_ring.specs.Bus.{Sender}

abbrev pub sender_of_part : Role → Option Sender
sender_of_part (Sends s) = Some (record { left = packets_of s.items; sends = s.toggle })
sender_of_part (Takes t) = None
sender_of_part (Controls c) = None
sender_of_part (Streams s) = None
sender_of_part Hears = None

abbrev pub sender_of_endpoint : Option Endpoint → Option Sender
sender_of_endpoint None = None
sender_of_endpoint (Some e) = sender_of_part e.part

abbrev pub sender_of_device : ℕ → ℕ → Option Device → Option Sender
sender_of_device addr ep None = None
sender_of_device addr ep (Some d) = if addr == d.address then sender_of_endpoint (endpoint_at d.endpoints (place_named d.endpoints ep Ways.In)) else None

abbrev pub sender_of_owner : Bus → ℕ → ℕ → Owner → Option Sender
sender_of_owner b addr ep (Owners.High place) = sender_of_device addr ep (slice_get b.devices place)
sender_of_owner b addr ep (Owners.Hub place) = None
sender_of_owner b addr ep (Owners.Below place hub port stuff) = None

abbrev pub sender_of_seat : Bus → ℕ → ℕ → Option Seat → Option Sender
sender_of_seat b addr ep None = None
sender_of_seat b addr ep (Some seat) = sender_of_owner b addr ep seat.owner

abbrev pub sender_of_place : Wired → ℕ → ℕ → Option ℕ → Option Sender
sender_of_place w addr ep None = None
sender_of_place w addr ep (Some place) = sender_of_seat w.bus addr ep (slice_get w.fixed.seats place)

abbrev pub sender_of : Wired → ℕ → ℕ → Option Sender
sender_of w addr ep = sender_of_place w addr ep (place_for w.fixed.seats addr ep In)
