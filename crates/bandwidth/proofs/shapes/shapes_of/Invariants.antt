use Rattle.std.proofs.Common.{◌≡◌, ◌<◌, ℕ, get_or, length}
use Rattle.bandwidth.specs.declared.shapes.Shape.{Shape}
use Rattle.bandwidth.specs.Shapes.{IsShape}
use Rattle.bandwidth.proofs.shapes.shapes_of.Given as goal

abbrev pub invariant-loop-first : goal.invariant-loop-first
invariant-loop-first l = record {
  count : length l.shapes ≡ 8;
  shapes : (s : ℕ) (d : Shape) → s < l.first → IsShape l.want (get_or l.shapes s d);
  first : (s : ℕ) (d : Shape) → s < l.first → (get_or l.shapes s d).costs.from ≡ s;
}
