use Rattle.std.proofs.Common.{◌≡◌, ◌-◌, ◌/◌, ◌%◌, get_or, arith}
use Rattle.bandwidth.specs.Placements.{frame_period}
use Rattle.bandwidth.specs.Sums.{is_active}
use Rattle.bandwidth.proofs.Cells.{turn_more}
use Rattle.bandwidth.proofs.Turns.{one_more}
use Rattle.bandwidth.proofs.tables.add_microframes.Goals as goal

pub loop-k-preserved : goal.loop-k-preserved
loop-k-preserved g c =
    let p = c.args.placement.now in
    let n = c.active_frame.result in
    let span = c.args.amounts.now.to - c.args.amounts.now.from in
    record {
      cells = c.add_in_frame.ensures.cells;
      sums = λ u h.
          let f = u / 8 in
          let step =
          one_more (is_active p f) (f / frame_period p.period) c.loop-k.k f n (get_or c.args.amounts.now.each (u % 8) 0)
          (λ (e : f ≡ n). rw e c.active_frame.ensures.active)
          (λ (e : f ≡ n). rw e c.active_frame.ensures.turn)
          (λ a t. c.active_frame.ensures.only f a t) in
          omega (arith, step, c.loop-k.invariant.sums u h, c.add_in_frame.ensures.sums u h);
      steps = omega (arith, c.add_in_frame.ensures.steps, c.loop-k.invariant.steps, turn_more c.loop-k.k span);
    }
