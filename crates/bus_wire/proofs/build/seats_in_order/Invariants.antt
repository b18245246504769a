use Rattle.std.proofs.Common.{◌≡◌, ◌++◌, drop}
use Rattle.std.specs.Prelude.{filter_map}
use Rattle.bus_wire.specs.Seats.{seat_named}
use Rattle.bus_wire.proofs.build.seats_in_order.Given as goal

abbrev pub invariant-loop-name : goal.invariant-loop-name
invariant-loop-name l = record {
  named : l.named.items ++ filter_map (seat_named l.seats) (drop l.name-index l.names) ≡ filter_map (seat_named l.seats) l.names;
}
