use Rattle.std.proofs.Common.{◌≡◌, ◌≤◌, ◌+◌, ◌*◌, map}
use Rattle.bandwidth.specs.Placements.{below, placement_at}
use Rattle.bandwidth.specs.Choice.{choice}
use Rattle.bandwidth.specs.Shapes.{turns, cells}
use Rattle.bandwidth.proofs.search.best_in_phase.Given as goal

abbrev pub invariant-loop-first : goal.invariant-loop-first
invariant-loop-first g l = record {
  best : l.best ≡ choice l.rules l.accounts.placed l.want l.fn.so_far (map (placement_at l.want l.phase) (below l.first));
  steps : l.steps ≤ l.initial.steps + l.first * (turns l.want.period * cells l.want);
}
