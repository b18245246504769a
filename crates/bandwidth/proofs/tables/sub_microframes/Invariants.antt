use Rattle.std.proofs.Common.{◌≡◌, ◌+◌, ◌<◌, ◌/◌, ◌%◌, ℕ, cond, get_or, length, nat_lt}
use Rattle.std.specs.Prelude.{◌&&◌}
use Rattle.bandwidth.specs.Placements.{frame_period}
use Rattle.bandwidth.specs.Sums.{is_active}
use Rattle.bandwidth.proofs.tables.sub_microframes.Given as goal

abbrev pub invariant-loop-k : goal.invariant-loop-k
invariant-loop-k l = record {
  cells : length l.table ≡ 8192;
  sums :
      (u : ℕ) → u < 8192
      → get_or l.initial.table u 0
      ≡ get_or l.table u 0
      + cond (is_active l.placement (u / 8) && nat_lt (u / 8 / frame_period l.placement.period) l.k) (get_or l.amounts (u % 8) 0) 0;
}
