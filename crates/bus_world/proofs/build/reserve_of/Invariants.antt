use Rattle.std.proofs.Common.{◌≡◌, drop}
use Rattle.bus_world.specs.Rooms.{with_room, reserve_of}
use Rattle.bus_world.proofs.build.reserve_of.Given as goal

abbrev pub invariant-loop-entry : goal.invariant-loop-entry
invariant-loop-entry l = with_room l.all (reserve_of (drop l.entry-index l.lines)) ≡ reserve_of l.lines
