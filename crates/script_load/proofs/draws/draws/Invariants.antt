use Rattle.std.proofs.Common.{◌≡◌, ◌≤◌, ◌+◌, ◌-◌, ◌++◌, length}
use Rattle.std.specs.Prelude.{vec_capacity}
use Rattle.script_load.specs.Load.{draws}
use Rattle.script_load.proofs.draws.draws.Given as goal

abbrev pub invariant-loop-draw : goal.invariant-loop-draw
invariant-loop-draw l = record {
  room : 90 ≤ vec_capacity l.all;
  many : length l.all.items ≡ l._draw;
  drawn : l.all.items ++ draws l.x (90 - l._draw) ≡ draws l.n 90;
}
