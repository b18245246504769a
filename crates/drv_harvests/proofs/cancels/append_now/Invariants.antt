use Rattle.std.proofs.Common.{◌≡◌, ◌+◌, ◌-◌, ◌≤◌, ◌++◌, take, vec_len, vec_capacity}
use Rattle.drv_table.specs.Harvests.{bytes_now}
use Rattle.drv_harvests.proofs.cancels.append_now.Given as goal

abbrev pub invariant-loop-i : goal.invariant-loop-i
invariant-loop-i l = record {
  items : l.store.items ++ take l.most (bytes_now l.notes l.mem l.queue l.block (l.count - l.i) l.transfer.left) ≡ l.fn.store.items ++ take l.transfer.most (bytes_now l.notes l.mem l.queue l.transfer.first l.transfer.qtds l.transfer.left);
  len : vec_len l.store + l.most ≤ vec_len l.fn.store + l.transfer.most;
  capacity : vec_capacity l.store ≡ vec_capacity l.fn.store;
}
