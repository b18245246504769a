-- Senders and takers wherever their seat is: the device of each on the high-speed bus, or below a hub (USB 2.0, 8.5, 11.1 and 11.14).
--     device_in devices owner         the device that an endpoint is of
--     sender_at w addr ep             what an IN endpoint has to send; `sender_on` while a hub works
--     taker_at, taker_on              what an OUT endpoint took
use Rattle.std.specs.Prelude.{ℕ, List, Option, Some, None, slice_get}
use Rattle.std.specs.Option.{option_and_then}
use Rattle.endpoint_script.specs.Device.{Device}
use Rattle.bus_wire.specs.declared.seats.Owner.{Owner}
use Rattle.bus_wire.specs.declared.seats.Owner.TheVariants as Owners
use Rattle.bus_wire.specs.declared.seats.Seat.{Seat}
use Rattle.bus_wire.specs.declared.seats.TokenKind.{TokenKind}
use Rattle.bus_wire.specs.declared.seats.TokenKind.TheVariants as Tokens
use Rattle.bus_wire.specs.Seats.{place_for}
use Rattle.bus_wire.specs.Fixed.{Fixed}
use Rattle.bus_wire.specs.Below.{Below}
use Rattle.bus_wire.specs.Bus.{Wired}
use Rattle.law_ring.specs.Bus.{Sender}
use Rattle.law_ring.specs.OutBus.{Taker}
use Rattle.law_devices.specs.Senders.{sender_of_device}
use Rattle.law_devices.specs.scripted_takers.Takers.{taker_of_device}

abbrev pub device_place : Owner → Option ℕ
device_place (Owners.High place) = Some place
device_place (Owners.Below place hub port stuff) = Some place
device_place (Owners.Hub place) = None

abbrev pub device_in : List Device → Owner → Option Device
device_in devices owner = option_and_then (λ place. slice_get devices place) (device_place owner)

-- ---- an end of a pipe, by what it is of its device

abbrev pub EndOf : Type 0 → Type 0
EndOf X = ℕ → ℕ → Option Device → Option X

module _ {X : Type 0} (of_device : EndOf X) where
  abbrev pub end_seated : List Device → ℕ → ℕ → Option Seat → Option X
  end_seated devices addr ep None = None
  end_seated devices addr ep (Some seat) = of_device addr ep (device_in devices seat.owner)

  abbrev pub end_placed : Fixed → List Device → ℕ → ℕ → Option ℕ → Option X
  end_placed fixed devices addr ep None = None
  end_placed fixed devices addr ep (Some place) = end_seated devices addr ep (slice_get fixed.seats place)

  -- that of the endpoint which this token with this address and number is for
  abbrev pub end_in : TokenKind → Fixed → List Device → ℕ → ℕ → Option X
  end_in token fixed devices addr ep = end_placed fixed devices addr ep (place_for fixed.seats addr ep token)

-- ---- IN

abbrev pub sender_at : Wired → ℕ → ℕ → Option Sender
sender_at w addr ep = end_in sender_of_device Tokens.In w.fixed w.bus.devices addr ep

abbrev pub sender_on : Below → ℕ → ℕ → Option Sender
sender_on w addr ep = end_in sender_of_device Tokens.In w.fixed w.floor.devices addr ep

-- ---- OUT

abbrev pub taker_at : Wired → ℕ → ℕ → Option Taker
taker_at w addr ep = end_in taker_of_device Tokens.Out w.fixed w.bus.devices addr ep

abbrev pub taker_on : Below → ℕ → ℕ → Option Taker
taker_on w addr ep = end_in taker_of_device Tokens.Out w.fixed w.floor.devices addr ep
