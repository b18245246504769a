use Rattle.std.proofs.Common.{◌≡◌, ◌/◌, ◌%◌, get_or, arith}
use Rattle.bandwidth.specs.Placements.{frame_period}
use Rattle.bandwidth.specs.Sums.{is_active}
use Rattle.bandwidth.proofs.Turns.{one_more}
use Rattle.bandwidth.proofs.tables.sub_microframes.Goals as goal

pub loop-k-preserved : goal.loop-k-preserved
loop-k-preserved c =
    let p = c.args.placement.now in
    let n = c.active_frame.result in
    record {
      cells = c.sub_in_frame.ensures.cells;
      sums = λ u h.
          let f = u / 8 in
          let step =
          one_more (is_active p f) (f / frame_period p.period) c.loop-k.k f n (get_or c.args.amounts.now (u % 8) 0)
          (λ (e : f ≡ n). rw e c.active_frame.ensures.active)
          (λ (e : f ≡ n). rw e c.active_frame.ensures.turn)
          (λ a t. c.active_frame.ensures.only f a t) in
          omega (arith, step, c.loop-k.invariant.sums u h, c.sub_in_frame.ensures.sums u h);
    }
