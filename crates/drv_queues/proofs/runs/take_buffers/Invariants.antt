use Rattle.std.proofs.Common.{◌≡◌, drop}
use Rattle.mem_runs.specs.Book.{Holding, holding, Stands, IsTakenFrom}
use Rattle.drv_table.specs.Accepting.{take_runs}
use Rattle.drv_words.specs.Cuts.{stages_of}
use Rattle.drv_queues.proofs.Taking.{buffers_of}
use Rattle.drv_queues.proofs.runs.take_buffers.Given as goal

abbrev pub invariant-loop-k : goal.invariant-loop-k
invariant-loop-k l = record {
  stands : Stands (holding l.book l.mem);
  from : (before : Holding) → IsTakenFrom before (holding l.fn.book l.fn.mem) → IsTakenFrom before (holding l.book l.mem);
  leads : take_runs (holding l.book l.mem) (buffers_of (drop l.k (stages_of l.cut))) ≡ take_runs (holding l.fn.book l.fn.mem) (buffers_of (stages_of l.cut));
}
