use Rattle.std.proofs.Common.{◌≡◌, ◌-◌, ◌*◌}
use Rattle.mem_runs.specs.Book.{holding, Stands}
use Rattle.drv_table.specs.Words.{pieces}
use Rattle.drv_periodic_table.specs.Descriptors.{write_seeded}
use Rattle.drv_iso.proofs.writing.write_seed.Given as goal

abbrev pub invariant-loop-word : goal.invariant-loop-word
invariant-loop-word l = record {
  stands : Stands (holding l.book l.mem);
  leads : write_seeded l.book l.mem l.buffer l.seed l.total (4 * l.word) (pieces l.total 4 - l.word) ≡ write_seeded l.book l.fn.mem l.buffer l.seed l.total 0 (pieces l.total 4);
}
