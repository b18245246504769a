use Rattle.std.proofs.Common.{◌≡◌, drop}
use Rattle.mem_runs.specs.Book.{holding, Stands}
use Rattle.drv_table.specs.Releases.{free_transfers}
use Rattle.drv_harvests.proofs.releases.free_transfers_of.Given as goal

abbrev pub invariant-loop-transfer : goal.invariant-loop-transfer
invariant-loop-transfer l = record {
  stands : Stands (holding l.book l.mem);
  leads : free_transfers l.notes l.e (holding l.book l.mem) (drop l.transfer-index l.transfers) ≡ free_transfers l.notes l.e (holding l.fn.book l.fn.mem) l.transfers;
}
