use Rattle.std.proofs.Common.{◌≡◌, ◌+◌, ◌≤◌}
use Rattle.image_show.specs.Marks.{AreMarks}
use Rattle.image_codec.specs.Printing.{Passes}
use Rattle.image_show.specs.Shown.{frames_text, seen_before}
use Rattle.image_show.proofs.frames.put_frames.Given as goal

abbrev pub invariant-loop-n : goal.invariant-loop-n
invariant-loop-n g l = record {
  passed : Passes (g.K.Sink.written l.fn.sink) (g.K.Sink.written l.sink) l.fn.page l.page (frames_text l.image l.n);
  marks : AreMarks l.lists l.queues (l.n + 1) (seen_before l.image l.n);
  counted : g.K.Sink.faults l.fn.sink ≤ g.K.Sink.faults l.sink;
  same : g.K.Sink.faults l.sink ≡ g.K.Sink.faults l.fn.sink;
}
