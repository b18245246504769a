use Rattle.std.proofs.Common.{◌≡◌, ◌-◌}
use Rattle.mem_runs.specs.Book.{Holding, holding, Stands, IsTakenFrom}
use Rattle.drv_table.specs.Accepting.{take_runs}
use Rattle.drv_table.specs.IsoOffers.{iso_needs}
use Rattle.drv_iso.proofs.runs.take_all.Given as goal

abbrev pub invariant-loop-descriptor : goal.invariant-loop-descriptor
invariant-loop-descriptor l = record {
  stands : Stands (holding l.book l.mem);
  from : (before : Holding) → IsTakenFrom before (holding l.fn.book l.fn.mem) → IsTakenFrom before (holding l.book l.mem);
  leads : take_runs (holding l.book l.mem) (iso_needs l.slots (l.count - l._descriptor)) ≡ take_runs (holding l.fn.book l.fn.mem) (iso_needs l.slots l.count);
}
