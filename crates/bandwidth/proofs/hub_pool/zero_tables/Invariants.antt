use Rattle.std.proofs.Common.{◌≡◌, ◌≤◌, vec_len, vec_capacity}
use Rattle.std.specs.Prelude.{All}
use Rattle.bandwidth.specs.Tables.{AreZero}
use Rattle.bandwidth.proofs.hub_pool.zero_tables.Given as goal

abbrev pub invariant-loop-k : goal.invariant-loop-k
invariant-loop-k l = record {
  count : vec_len l.free ≡ l._k;
  room : l.size ≤ vec_capacity l.free;
  zeros : All AreZero l.free.items;
}
