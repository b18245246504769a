use Rattle.std.proofs.Common.{◌≡◌, ◌++◌, drop}
use Rattle.bus_wire.specs.Seats.{hub_seats_from}
use Rattle.bus_wire.proofs.build.hub_seats.Given as goal

abbrev pub invariant-loop-place : goal.invariant-loop-place
invariant-loop-place l = l.seats.items ++ hub_seats_from l.place (drop l.place l.hubs) ≡ hub_seats_from 0 l.hubs
