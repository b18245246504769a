use Rattle.std.proofs.Common.{◌≡◌, ◌+◌, ◌<◌, ◌/◌, ℕ, cond, get_or, length, nat_lt}
use Rattle.std.specs.Prelude.{◌&&◌}
use Rattle.bandwidth.specs.Placements.{frame_period}
use Rattle.bandwidth.specs.Sums.{is_active}
use Rattle.bandwidth.proofs.tables.add_frames.Given as goal

abbrev pub invariant-loop-k : goal.invariant-loop-k
invariant-loop-k g l = record {
  cells : length l.table ≡ 1024;
  sums :
      (f : ℕ) → f < 1024
      → get_or l.table f 0
      ≡ get_or l.initial.table f 0
      + cond (is_active l.placement f && nat_lt (f / frame_period l.placement.period) l.k) l.amount 0;
  steps : l.steps ≡ l.initial.steps + l.k;
}
