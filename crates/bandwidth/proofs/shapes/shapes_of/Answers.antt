use Rattle.std.proofs.Common.{◌≡◌, ◌<◌, length, length-set, arith, ◌∙◌}
use Rattle.bandwidth.specs.declared.shapes.Shape.{Shape}
use Rattle.bandwidth.specs.Shapes.{IsShape}
use Rattle.bandwidth.proofs.Spans.{written_any}
use Rattle.bandwidth.proofs.shapes.shapes_of.Goals as goal

pub loop-first-preserved : goal.loop-first-preserved
loop-first-preserved c =
    let inside : c.loop-first.first < length c.loop-first.shapes = omega (arith, c.loop-first.invariant.count, c.starts-first-end.ensures.bound, c.loop-first-test.true) in
    record {
      count = length-set _ _ _ ∙ c.loop-first.invariant.count;
      shapes =
          written_any (λ k (x : Shape). IsShape c.args.want.now x)
          c.loop-first.shapes c.loop-first.first c.shape_of.result inside c.loop-first.invariant.shapes c.shape_of.ensures.shape;
      first =
          written_any (λ k (x : Shape). x.costs.from ≡ k)
          c.loop-first.shapes c.loop-first.first c.shape_of.result inside c.loop-first.invariant.first c.shape_of.ensures.first;
    }
