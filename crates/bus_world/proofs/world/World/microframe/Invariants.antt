use Rattle.std.proofs.Common.{◌≡◌}
use Rattle.bus_world.specs.AtWork.{room_in}
use Rattle.bus_world.proofs.TicksAtWork.{Still}
use Rattle.bus_world.proofs.world.World.microframe.Given as goal

abbrev pub invariant-loop-turn : goal.invariant-loop-turn
invariant-loop-turn l = record {
  fixed : l.self.fixed ≡ l.initial.self.fixed;
  room : room_in l.self.work ≡ room_in l.initial.self.work;
  still : Still l.initial.self l.self l._turn;
}
