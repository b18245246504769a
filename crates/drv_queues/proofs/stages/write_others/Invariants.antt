use Rattle.std.proofs.Common.{◌≡◌, drop}
use Rattle.mem_runs.specs.Book.{holding, Stands}
use Rattle.drv_table.specs.Offers.{write_stages}
use Rattle.drv_words.specs.Cuts.{stages_of}
use Rattle.drv_queues.proofs.stages.write_others.Given as goal

abbrev pub invariant-loop-k : goal.invariant-loop-k
invariant-loop-k l = record {
  stands : Stands (holding l.book l.mem);
  leads : write_stages l.book l.mem l.notes l.dummy (drop l.k (stages_of l.cut)) l.at ≡ write_stages l.book l.fn.mem l.notes l.dummy (drop 1 (stages_of l.cut)) l.block;
}
