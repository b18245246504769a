use Rattle.std.proofs.Common.{◌≡◌, ◌+◌, ◌++◌, vec_len, vec_capacity}
use Rattle.drv_periodic_table.specs.Descriptors.{bytes_from}
use Rattle.drv_iso.proofs.reading.append_bytes.Given as goal

abbrev pub invariant-loop-i : goal.invariant-loop-i
invariant-loop-i l = record {
  items : l.store.items ≡ l.fn.store.items ++ bytes_from l.mem l.buffer l.from l.i;
  len : vec_len l.store ≡ vec_len l.fn.store + l.i;
  capacity : vec_capacity l.store ≡ vec_capacity l.fn.store;
}
