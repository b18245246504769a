use Rattle.std.proofs.Common.{◌≡◌, drop}
use Rattle.mem_runs.specs.Book.{holding, Stands}
use Rattle.drv_table.specs.Releases.{free_runs}
use Rattle.drv_harvests.proofs.releases.free_runs_at.Given as goal

abbrev pub invariant-loop-block : goal.invariant-loop-block
invariant-loop-block l = record {
  stands : Stands (holding l.book l.mem);
  leads : free_runs (holding l.book l.mem) (drop l.block-index l.blocks) ≡ free_runs (holding l.fn.book l.fn.mem) l.blocks;
}
