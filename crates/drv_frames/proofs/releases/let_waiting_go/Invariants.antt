use Rattle.std.proofs.Common.{◌≡◌, ◌++◌, map, take, drop, vec_capacity}
use Rattle.drv_table.specs.Removals.{let_go_waiting}
use Rattle.drv_frames.proofs.releases.let_waiting_go.Given as goal

abbrev pub invariant-loop-k : goal.invariant-loop-k
invariant-loop-k l = record {
  items : l.transfers.items ≡ map (let_go_waiting l.e l.told) (take l.k l.fn.transfers.items) ++ drop l.k l.fn.transfers.items;
  capacity : vec_capacity l.transfers ≡ vec_capacity l.fn.transfers;
}
