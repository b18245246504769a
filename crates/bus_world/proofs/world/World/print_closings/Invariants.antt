use Rattle.std.proofs.Common.{◌≡◌, ◌≤◌, take}
use Rattle.std.specs.List.{flat_map}
use Rattle.std.specs.Io.KnownBytes.{Appends}
use Rattle.bus_world.specs.ClosingAtWork.{closing_at_work}
use Rattle.bus_world.proofs.world.World.print_closings.Given as goal

abbrev pub invariant-loop-seat : goal.invariant-loop-seat
invariant-loop-seat g l = record {
  appended : Appends (g.K.Sink.written l.fn.sink) (g.K.Sink.written l.sink) (flat_map (closing_at_work l.self.work) (take l.seat-index l.seats));
  counted : g.K.Sink.faults l.fn.sink ≤ g.K.Sink.faults l.sink;
  same : g.K.Sink.faults l.sink ≡ g.K.Sink.faults l.fn.sink;
}
