use Rattle.std.proofs.Common.{◌≡◌, drop}
use Rattle.mem_runs.specs.Book.{holding, Stands}
use Rattle.drv_table.specs.Removals.{free_descriptors}
use Rattle.drv_frames.proofs.releases.free_waiting.Given as goal

abbrev pub invariant-loop-transfer : goal.invariant-loop-transfer
invariant-loop-transfer l = record {
  stands : Stands (holding l.book l.mem);
  leads : free_descriptors l.periodic.periodic.notes l.e (holding l.book l.mem) (drop l.transfer-index l.transfers) ≡ free_descriptors l.periodic.periodic.notes l.e (holding l.fn.book l.fn.mem) l.transfers;
}
