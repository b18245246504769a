use Rattle.std.proofs.Common.{◌≡◌, ◌+◌, ◌-◌, ◌*◌, ◌/◌, ◌%◌, ◌<◌, ◌≤◌, true, get_or, arith}
use Rattle.bandwidth.specs.Placements.{frame_period}
use Rattle.bandwidth.specs.Sums.{is_active}
use Rattle.bandwidth.proofs.Cells.{turn_more}
use Rattle.bandwidth.proofs.Turns.{earlier_or_now}
use Rattle.bandwidth.proofs.limits.peak_within.Goals as goal

pub loop-k-preserved : goal.loop-k-preserved
loop-k-preserved g c =
    let p = c.args.placement.now in
    let n = c.active_frame.result in
    let ends = c.frame_peak-peak.ensures in
    record {
      within = omega (arith, c.if-peak-limit.false);
      covers = λ u h active some t.
          earlier_or_now
          (get_or c.args.table.now u 0 + get_or c.args.amounts.now.each (u % 8) 0 ≤ c.frame_peak-peak.result)
          (u / 8 / frame_period p.period)
          c.loop-k.k
          t
          (λ l. omega (arith, c.loop-k.invariant.covers u h active some l, ends.at_least))
          (λ e.
          let here : u / 8 ≡ n = c.active_frame.ensures.only (u / 8) active e in
          let place : 8 * n + u % 8 ≡ u = omega arith in
          let small : u % 8 < 8 = omega arith in
          rw place at (ends.covers (u % 8) small some));
      least = λ b all.
          ends.least b (c.loop-k.invariant.least b all)
          (λ m h some.
          let in_table : 8 * n + m < 8192 = omega (arith, c.active_frame.ensures.bound) in
          let frame : (8 * n + m) / 8 ≡ n = omega arith in
          let cell : (8 * n + m) % 8 ≡ m = omega arith in
          let active : is_active p ((8 * n + m) / 8) ≡ true = rw frame c.active_frame.ensures.active in
          rw cell at (all (8 * n + m) in_table active (rw cell some)));
      steps =
          omega (
            arith,
            ends.steps,
            c.loop-k.invariant.steps,
            turn_more c.loop-k.k (c.args.amounts.now.to - c.args.amounts.now.from),
          );
    }

pub returns-then-peak-limit-clause-none : goal.returns-then-peak-limit-clause-none
returns-then-peak-limit-clause-none g c all =
    let p = c.args.placement.now in
    let n = c.active_frame.result in
    let ends = c.frame_peak-peak.ensures in
    let most =
    ends.least c.args.limit (c.loop-k.invariant.least c.args.limit all)
    (λ m h some.
    let in_table : 8 * n + m < 8192 = omega (arith, c.active_frame.ensures.bound) in
    let frame : (8 * n + m) / 8 ≡ n = omega arith in
    let cell : (8 * n + m) % 8 ≡ m = omega arith in
    let active : is_active p ((8 * n + m) / 8) ≡ true = rw frame c.active_frame.ensures.active in
    rw cell at (all (8 * n + m) in_table active (rw cell some))) in
    absurd (omega (arith, most, c.if-peak-limit.true))
