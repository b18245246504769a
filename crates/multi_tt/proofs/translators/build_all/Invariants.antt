use Rattle.std.proofs.Common.{◌≡◌, ◌≤◌, replicate, vec_len, vec_capacity}
use Rattle.multi_tt.specs.Translators.{opening}
use Rattle.multi_tt.proofs.translators.build_all.Given as goal

abbrev pub invariant-loop-place : goal.invariant-loop-place
invariant-loop-place l = record {
  items : l.all.items ≡ replicate l._place opening;
  len : vec_len l.all ≡ l._place;
  room : l.count ≤ vec_capacity l.all;
}
