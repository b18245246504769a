use Rattle.std.proofs.Common.{◌≡◌, ◌-◌, replicate}
use Rattle.mem_runs.specs.Book.{Holding, holding, Stands, IsTakenFrom}
use Rattle.drv_table.specs.Accepting.{take_runs}
use Rattle.drv_queues.proofs.runs.take_each.Given as goal

abbrev pub invariant-loop-run : goal.invariant-loop-run
invariant-loop-run l = record {
  stands : Stands (holding l.book l.mem);
  from : (before : Holding) → IsTakenFrom before (holding l.fn.book l.fn.mem) → IsTakenFrom before (holding l.book l.mem);
  leads : take_runs (holding l.book l.mem) (replicate (l.count - l._run) l.n) ≡ take_runs (holding l.fn.book l.fn.mem) (replicate l.count l.n);
}
