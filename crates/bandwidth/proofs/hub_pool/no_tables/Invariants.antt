use Rattle.std.proofs.Common.{◌≡◌, ◌≤◌, vec_len, vec_capacity}
use Rattle.std.specs.Prelude.{All, Option, None}
use Rattle.bandwidth.specs.Tables.{HubTables}
use Rattle.bandwidth.proofs.hub_pool.no_tables.Given as goal

abbrev pub invariant-loop-k : goal.invariant-loop-k
invariant-loop-k l = record {
  count : vec_len l.hubs ≡ l._k;
  room : 2048 ≤ vec_capacity l.hubs;
  none : All (λ (o : Option HubTables). o ≡ None) l.hubs.items;
}
