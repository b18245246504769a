use Rattle.std.proofs.Common.{◌≡◌, ◌<◌, ◌≤◌, length, arith, ◌∙◌, length-set}
use Rattle.bandwidth.specs.Sums.{cost_in}
use Rattle.bandwidth.proofs.Turns.{written_more}
use Rattle.bandwidth.proofs.asks.costs_of.Goals as goal

pub loop-m-preserved : goal.loop-m-preserved
loop-m-preserved c =
    let inside : c.loop-m.m < length c.loop-m.costs = omega arith in
    record {
      cells = length-set _ _ _ ∙ c.loop-m.invariant.cells;
      costs =
          written_more
          (λ k x. x ≡ cost_in c.args.want.now c.args.placement.now k)
          c.loop-m.costs c.loop-m.m c.cost_of.result inside c.loop-m.invariant.costs c.cost_of.ensures.cost;
      bound =
          written_more (λ _ x. x ≤ 63000000)
          c.loop-m.costs c.loop-m.m c.cost_of.result inside c.loop-m.invariant.bound c.cost_of.ensures.bound;
    }
