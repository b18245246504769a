use Rattle.std.proofs.Common.{◌≡◌, ◌+◌, ◌++◌, vec_len, vec_capacity}
use Rattle.drv_table.specs.Harvests.{buffer_bytes}
use Rattle.drv_harvests.proofs.buffers.append_buffer.Given as goal

abbrev pub invariant-loop-j : goal.invariant-loop-j
invariant-loop-j l = record {
  items : l.store.items ≡ l.fn.store.items ++ buffer_bytes l.mem l.note l.j;
  len : vec_len l.store ≡ vec_len l.fn.store + l.j;
  capacity : vec_capacity l.store ≡ vec_capacity l.fn.store;
}
