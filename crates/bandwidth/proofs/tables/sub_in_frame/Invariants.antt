use Rattle.std.proofs.Common.{◌≡◌, ◌+◌, ◌<◌, ◌/◌, ◌%◌, ℕ, cond, get_or, length, nat_eq, nat_lt}
use Rattle.std.specs.Prelude.{◌&&◌}
use Rattle.bandwidth.proofs.tables.sub_in_frame.Given as goal

abbrev pub invariant-loop-m : goal.invariant-loop-m
invariant-loop-m l = record {
  cells : length l.table ≡ 8192;
  sums :
      (u : ℕ) → u < 8192
      → get_or l.initial.table u 0 ≡ get_or l.table u 0 + cond (nat_eq (u / 8) l.frame && nat_lt (u % 8) l.m) (get_or l.amounts (u % 8) 0) 0;
}
