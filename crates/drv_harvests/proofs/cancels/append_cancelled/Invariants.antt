use Rattle.std.proofs.Common.{◌≡◌, ◌+◌, ◌≤◌, ◌++◌, drop, vec_len, vec_capacity}
use Rattle.drv_table.specs.Releases.{cancelled_bytes}
use Rattle.drv_harvests.specs.Owed.{owed_of}
use Rattle.drv_harvests.proofs.cancels.append_cancelled.Given as goal

abbrev pub invariant-loop-transfer : goal.invariant-loop-transfer
invariant-loop-transfer l = record {
  items : l.store.items ++ cancelled_bytes l.notes l.mem l.e l.queue (drop l.transfer-index l.transfers) ≡ l.fn.store.items ++ cancelled_bytes l.notes l.mem l.e l.queue l.transfers;
  len : vec_len l.store + owed_of l.e (drop l.transfer-index l.transfers) ≤ vec_len l.fn.store + owed_of l.e l.transfers;
  capacity : vec_capacity l.store ≡ vec_capacity l.fn.store;
}
