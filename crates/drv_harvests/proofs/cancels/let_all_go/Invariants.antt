use Rattle.std.proofs.Common.{◌≡◌, ◌++◌, map, take, drop, vec_capacity}
use Rattle.drv_table.specs.Releases.{let_go}
use Rattle.drv_harvests.proofs.cancels.let_all_go.Given as goal

abbrev pub invariant-loop-k : goal.invariant-loop-k
invariant-loop-k l = record {
  items : l.transfers.items ≡ map (let_go l.e l.told) (take l.k l.fn.transfers.items) ++ drop l.k l.fn.transfers.items;
  capacity : vec_capacity l.transfers ≡ vec_capacity l.fn.transfers;
}
