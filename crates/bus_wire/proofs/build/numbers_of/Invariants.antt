use Rattle.std.proofs.Common.{◌≡◌, length, take}
use Rattle.bus_wire.specs.Fixed.{AreNumbers}
use Rattle.bus_wire.proofs.build.numbers_of.Given as goal

abbrev pub invariant-loop-seat : goal.invariant-loop-seat
invariant-loop-seat l = record {
  count : length l.numbers.items ≡ l.seat-index;
  are : AreNumbers l.fates l.below (take l.seat-index l.seats) l.numbers.items;
}
