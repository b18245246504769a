use Rattle.std.proofs.Common.{◌≡◌, ◌≤◌, ◌+◌, ◌*◌, None}
use Rattle.std.specs.List.{flat_map}
use Rattle.bandwidth.specs.Placements.{below, in_phase, placement_row}
use Rattle.bandwidth.specs.Choice.{choice}
use Rattle.bandwidth.specs.Shapes.{turns, cells}
use Rattle.bandwidth.proofs.search.best_placement.Given as goal

abbrev pub invariant-loop-phase : goal.invariant-loop-phase
invariant-loop-phase g l = record {
  best : l.best ≡ choice l.rules l.accounts.placed l.want None (flat_map (in_phase l.want) (below l.phase));
  steps : l.steps ≤ l.initial.steps + l.phase * ((placement_row l.want).starts * (turns l.want.period * cells l.want));
}
