use Rattle.std.proofs.Common.{◌≡◌, ◌-◌}
use Rattle.mem_runs.specs.Book.{holding, Stands}
use Rattle.drv_table.specs.Releases.{free_qtds}
use Rattle.drv_harvests.proofs.releases.free_qtds_from.Given as goal

abbrev pub invariant-loop-qtd : goal.invariant-loop-qtd
invariant-loop-qtd l = record {
  stands : Stands (holding l.book l.mem);
  leads : free_qtds l.notes (holding l.book l.mem) l.block (l.count - l._qtd) ≡ free_qtds l.notes (holding l.fn.book l.fn.mem) l.first l.count;
}
