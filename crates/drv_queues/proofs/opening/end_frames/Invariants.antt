use Rattle.std.proofs.Common.{◌≡◌, ◌-◌, ◌*◌, replicate}
use Rattle.word_mem.specs.Views.{with_words}
use Rattle.mem_runs.specs.Book.{holding, Stands}
use Rattle.drv_queues.proofs.opening.end_frames.Given as goal

abbrev pub invariant-loop-frame : goal.invariant-loop-frame
invariant-loop-frame l = record {
  stands : Stands (holding l.book l.mem);
  leads : with_words l.mem (4 * l.frame) (replicate (l.frames - l.frame) 1) ≡ with_words l.fn.mem 0 (replicate l.frames 1);
}
