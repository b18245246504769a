use Rattle.std.proofs.Common.{◌≡◌, ◌≤◌, drop}
use Rattle.bus_world.specs.ClosingAtWork.{taken_lines}
use Rattle.bus_world.proofs.Printing.{IsLeftOf}
use Rattle.bus_world.proofs.EpochTexts.{epoch_text}
use Rattle.bus_world.proofs.epochs.print_epochs.Given as goal

abbrev pub invariant-loop-mark : goal.invariant-loop-mark
invariant-loop-mark g l = record {
  left : IsLeftOf (g.K.Sink.written l.fn.sink) (g.K.Sink.written l.sink) (taken_lines l.marks l.name l.taken)
      (epoch_text (drop l.mark-index l.marks) l.name l.taken l.from);
  counted : g.K.Sink.faults l.fn.sink ≤ g.K.Sink.faults l.sink;
  same : g.K.Sink.faults l.sink ≡ g.K.Sink.faults l.fn.sink;
}
