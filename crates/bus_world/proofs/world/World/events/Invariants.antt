use Rattle.std.proofs.Common.{◌≡◌, ◌-◌}
use Rattle.bus_world.specs.Orders.{Events}
use Rattle.bus_world.specs.AtWork.{room_in}
use Rattle.bus_world.proofs.TicksAtWork.{GoneOn}
use Rattle.bus_world.proofs.world.World.events.Given as goal

abbrev pub invariant-loop-event : goal.invariant-loop-event
invariant-loop-event l = record {
  fixed : l.self.fixed ≡ l.initial.self.fixed;
  room : room_in l.self.work ≡ room_in l.initial.self.work;
  gone : GoneOn l.initial.self l.self (Events l.event) l.count (l.count - l._event);
}
