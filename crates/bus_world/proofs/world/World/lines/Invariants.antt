use Rattle.std.proofs.Common.{drop}
use Rattle.bus_world.proofs.WaysAtWork.{IsUnderWay}
use Rattle.bus_world.proofs.world.World.lines.Given as goal

abbrev pub invariant-loop-entry : goal.invariant-loop-entry
invariant-loop-entry l = IsUnderWay l.initial.self l.self l.lines (drop l.entry-index l.lines)
