use Rattle.std.proofs.Common.{◌≡◌, ◌≤◌, ◌+◌, ◌-◌, ◌++◌, take, vec_len, vec_capacity}
use Rattle.drv_periodic_table.specs.Descriptors.{told_from}
use Rattle.drv_iso.proofs.reading.append_slots.Given as goal

abbrev pub invariant-loop-u : goal.invariant-loop-u
invariant-loop-u l = record {
  items : l.store.items ++ take l.left (told_from l.note l.mem l.block l.u (8 - l.u)) ≡ l.fn.store.items ++ take l.most (told_from l.note l.mem l.block 0 8);
  len : vec_len l.store + l.left ≤ vec_len l.fn.store + l.most;
  capacity : vec_capacity l.store ≡ vec_capacity l.fn.store;
}
