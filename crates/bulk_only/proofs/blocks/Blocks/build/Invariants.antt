use Rattle.std.proofs.Common.{◌≡◌, ◌≤◌, ◌++◌, ◌-◌, vec_len, vec_capacity}
use Rattle.bulk_only.specs.Contents.{opening_from}
use Rattle.bulk_only.proofs.blocks.Blocks.build.Given as goal

abbrev pub invariant-loop-k : goal.invariant-loop-k
invariant-loop-k l = record {
  size : vec_len l.bytes ≡ l.k;
  room : l.all ≤ vec_capacity l.bytes;
  bytes : l.bytes.items ++ opening_from l.k (l.all - l.k) ≡ opening_from 0 l.all;
}
