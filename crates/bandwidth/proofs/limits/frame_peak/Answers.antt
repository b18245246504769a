use Rattle.std.proofs.Common.{◌≡◌, ◌+◌, ◌*◌, ◌≤◌, ◌<◌, get_or, arith}
use Rattle.bandwidth.proofs.Turns.{earlier_or_now}
use Rattle.bandwidth.proofs.limits.frame_peak.Goals as goal

pub loop-m-preserved : goal.loop-m-preserved
loop-m-preserved g c =
    let ends = c.cell_peak-peak.ensures in
    let sum = c.get-sum.ensures.cell in
    record {
      at_least = omega (arith, ends.at_least, c.loop-m.invariant.at_least);
      covers = λ m t own.
          earlier_or_now
          (get_or c.args.table.now (8 * c.args.frame + m) 0 + get_or c.args.amounts.now.each m 0 ≤ c.cell_peak-peak.result)
          m
          c.loop-m.m
          t
          (λ l. omega (arith, c.loop-m.invariant.covers m l own, ends.at_least))
          (λ (e : m ≡ c.loop-m.m). rw e (rw sum at (ends.covers (rw e at own))));
      least = λ b above all.
          let inside : c.loop-m.m < 8 = omega (arith, c.loop-m-test.true, c.requires.amounts.end) in
          ends.least b (c.loop-m.invariant.least b above all) (λ own. rw sum (all c.loop-m.m inside own));
      steps = omega (arith, c.get-sum.ensures.step, c.loop-m.invariant.steps, c.loop-m-test.true);
    }
