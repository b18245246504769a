use Rattle.std.proofs.Common.{◌≡◌, ℕ, ◌<◌, ◌≤◌, slice_get, Some, length, vec_capacity}
use Rattle.bus_wire.specs.Seats.{place_at}
use Rattle.bus_wire.proofs.places.Places.build.Given as goal

abbrev pub invariant-loop-key : goal.invariant-loop-key
invariant-loop-key l = record {
  count : length l.table.items ≡ l.key;
  room : 8192 ≤ vec_capacity l.table;
  each : (k : ℕ) → k < l.key → slice_get l.table.items k ≡ Some (place_at l.seats.items k);
}
