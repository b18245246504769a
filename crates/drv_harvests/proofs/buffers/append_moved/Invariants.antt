use Rattle.std.proofs.Common.{◌≡◌, ◌+◌, ◌-◌, ◌≤◌, ◌++◌, take, vec_len, vec_capacity}
use Rattle.drv_table.specs.Harvests.{moved_bytes}
use Rattle.drv_harvests.proofs.buffers.append_moved.Given as goal

abbrev pub invariant-loop-qtd : goal.invariant-loop-qtd
invariant-loop-qtd l = record {
  items : l.store.items ++ take l.left (moved_bytes l.notes l.mem l.block (l.count - l._qtd)) ≡ l.fn.store.items ++ take l.most (moved_bytes l.notes l.mem l.first l.count);
  len : vec_len l.store + l.left ≤ vec_len l.fn.store + l.most;
  capacity : vec_capacity l.store ≡ vec_capacity l.fn.store;
}
