use Rattle.std.proofs.Common.{◌≡◌, ◌*◌, ◌≤◌, ◌++◌, drop}
use Rattle.mem_runs.specs.Book.{holding, Stands}
use Rattle.drv_table.specs.Offers.{send_stages}
use Rattle.drv_words.specs.Cuts.{stages_of}
use Rattle.drv_queues.proofs.bytes.send_bytes.Given as goal

abbrev pub invariant-loop-k : goal.invariant-loop-k
invariant-loop-k l = record {
  stands : Stands (holding l.book l.mem);
  few : l.from ≤ 20480 * l.k;
  leads : send_stages l.book l.mem l.notes (drop l.k (stages_of l.cut)) l.at (drop l.from (l.front ++ l.bytes)) ≡ send_stages l.book l.fn.mem l.notes (stages_of l.cut) l.block (l.front ++ l.bytes);
}
