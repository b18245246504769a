-- The endpoints of a bus are those of the script.
--     BusHasEndpoints         the law
--     AHubIsSeated            with a hub and a device below it, the hub's endpoint 0 stands first and the device's endpoint behind it
--     NoEndpointsIsWrong      a bus that nobody stands on isn't that of a script with a hub
use Rattle.std.specs.Prelude.{◌≡◌, List, [], ◌∷◌}
use Rattle.script_types.specs.declared.devices.HubText.{HubText}
use Rattle.script_types.specs.declared.scripts.Script.{Script}
use Rattle.bus_wire.specs.declared.seats.Owner.TheVariants.{Hub, Below}
use Rattle.bus_wire.specs.Samples.{script, classic_name}
use Rattle.bus_wire.specs.Seats.{hub_name, seats_of}
use Rattle.claims_answers.specs.Seating.{HasSeat, AreSeats}

abbrev pub BusHasEndpoints : Type 0
BusHasEndpoints = (s : Script) → AreSeats s (seats_of s)

abbrev pub AHubIsSeated : Type 0
AHubIsSeated = HasSeat (seats_of (script [])) (hub_name 9) (Hub 0) × HasSeat (seats_of (script [])) classic_name (Below 0 9 1 0)

abbrev pub NoEndpointsIsWrong : Type 0
NoEndpointsIsWrong = (s : Script) (h : HubText) (hs : List HubText) → s.hubs ≡ h ∷ hs → AreSeats s [] → ⊥
