use Rattle.std.proofs.Common.{◌≡◌, ◌<◌, ◌≤◌, length, arith, ◌∙◌, length-set}
use Rattle.bandwidth.specs.Sums.{laid_in}
use Rattle.bandwidth.proofs.Turns.{written_more}
use Rattle.bandwidth.proofs.asks.byte_times_of.Goals as goal

pub loop-m-preserved : goal.loop-m-preserved
loop-m-preserved c =
    let inside : c.loop-m.m < length c.loop-m.bytes = omega arith in
    record {
      cells = length-set _ _ _ ∙ c.loop-m.invariant.cells;
      laid =
          written_more
          (λ k x. x ≡ laid_in c.args.want.now c.args.placement.now k)
          c.loop-m.bytes c.loop-m.m c.laid_of.result inside c.loop-m.invariant.laid c.laid_of.ensures.laid;
      bound =
          written_more (λ _ x. x ≤ 188)
          c.loop-m.bytes c.loop-m.m c.laid_of.result inside c.loop-m.invariant.bound c.laid_of.ensures.bound;
    }
