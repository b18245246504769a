use Rattle.std.proofs.Common.{◌≡◌, ◌-◌}
use Rattle.bus_world.specs.Orders.{Microframes}
use Rattle.bus_world.specs.AtWork.{room_in}
use Rattle.bus_world.proofs.TicksAtWork.{GoneOn}
use Rattle.bus_world.proofs.world.World.microframes.Given as goal

abbrev pub invariant-loop-microframe : goal.invariant-loop-microframe
invariant-loop-microframe l = record {
  fixed : l.self.fixed ≡ l.initial.self.fixed;
  room : room_in l.self.work ≡ room_in l.initial.self.work;
  gone : GoneOn l.initial.self l.self Microframes l.count (l.count - l._microframe);
}
