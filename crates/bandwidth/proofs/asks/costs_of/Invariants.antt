use Rattle.std.proofs.Common.{◌≡◌, ◌<◌, ◌≤◌, ℕ, get_or, length}
use Rattle.bandwidth.specs.Sums.{cost_in}
use Rattle.bandwidth.proofs.asks.costs_of.Given as goal

abbrev pub invariant-loop-m : goal.invariant-loop-m
invariant-loop-m l = record {
  cells : length l.costs ≡ 8;
  costs : (m : ℕ) → m < l.m → get_or l.costs m 0 ≡ cost_in l.want l.placement m;
  bound : (m : ℕ) → m < l.m → get_or l.costs m 0 ≤ 63000000;
}
