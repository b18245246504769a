use Rattle.std.proofs.Common.{◌≡◌, ◌-◌, ◌*◌, ◌++◌, take, drop}
use Rattle.mem_runs.specs.Book.{holding, Stands}
use Rattle.drv_table.specs.Words.{pieces}
use Rattle.drv_table.specs.Offers.{write_bytes}
use Rattle.drv_queues.proofs.bytes.write_buffer.Given as goal

abbrev pub invariant-loop-word : goal.invariant-loop-word
invariant-loop-word l = record {
  stands : Stands (holding l.book l.mem);
  leads : write_bytes l.book l.mem l.note (take l.count (drop l.from (l.front ++ l.bytes))) (4 * l.word) (pieces l.count 4 - l.word) ≡ write_bytes l.book l.fn.mem l.note (take l.count (drop l.from (l.front ++ l.bytes))) 0 (pieces l.count 4);
}
